-- What is wrong with a TOL line, by the tolerances before it.
use Rattle.std.proofs.Common.{◌≡◌, ℕ, Bool, true, List, [], ◌∷◌, length, refl, sym, ap, ◌∙◌, true≢false}
use Rattle.std.specs.Prelude.{Option, Some, None, ◌||◌, nat_eq, not, is_none}
use Rattle.lensmodel.specs.Files.Causes.{or_first, fault_if, first_fault}
use Rattle.lensmodel.specs.Files.Records.{Words, word_at}
use Rattle.lensmodel.specs.Files.Tolerances.{is_TOL, kind_of, tol_of, all_tols, is_wrong, has_bad, tol_faults, record_fault, offence}
use Rattle.lensmodel.specs.declared.fault.TolFault.TheVariants.{Word, BadNumber}
use Rattle.lensmodel.specs.declared.tolerance.Tol.{Tol}
use Rattle.toltext.specs.Records.{line_fault}

first_two : {F : Type 0} (a b c : Option F) → or_first a (or_first b c) ≡ or_first (or_first a (or_first b None)) c
first_two (Some x) b c = refl
first_two None (Some y) c = refl
first_two None None c = refl

wrong_kind : (l : Words) → is_TOL l ≡ true → length l ≡ 4 → is_wrong l ≡ is_none (kind_of (word_at 1 l))
wrong_kind l t e =
    ap (λ (b : Bool). not b || not (nat_eq (length l) 4) || is_none (kind_of (word_at 1 l))) t
    ∙ ap (λ (k : ℕ). not true || not (nat_eq k 4) || is_none (kind_of (word_at 1 l))) e

record_fault-TOL : (image n : ℕ) (before : List Tol) (l : Words) → is_TOL l ≡ true → length l ≡ 4 → record_fault image n before l ≡ line_fault image n before l
record_fault-TOL image n before l t e =
    ap (λ (b : Bool). or_first (fault_if b (Word n)) (or_first (fault_if (has_bad l) (BadNumber n)) (first_fault (tol_faults image n before (tol_of l))))) (wrong_kind l t e)
    ∙ first_two (fault_if (is_none (kind_of (word_at 1 l))) (Word n)) (fault_if (has_bad l) (BadNumber n)) (first_fault (tol_faults image n before (tol_of l)))

pub offence-TOL : (image n : ℕ) (before : List Words) (held : List Tol) (l : Words) → is_TOL l ≡ true → length l ≡ 4 → held ≡ all_tols before
    → offence image n before l ≡ line_fault image n held l
offence-TOL image n before held [] t e h = absurd (true≢false (sym t))
offence-TOL image n before held (w ∷ more) t e h =
    record_fault-TOL image n (all_tols before) (w ∷ more) t e ∙ ap (λ (ts : List Tol). line_fault image n ts (w ∷ more)) (sym h)
