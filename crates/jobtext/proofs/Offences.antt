-- What is wrong with one more line, by what the reader knows of those before.
use Rattle.std.proofs.Common.{◌≡◌, ℕ, suc, Bool, true, false, List, [], ◌∷◌, length, refl, sym, ap, ◌∙◌, arith}
use Rattle.std.proofs.lemmas.Bool.{lt-ltb, eq-eqb}
use Rattle.std.specs.Option.{option_map, is_some}
use Rattle.std.specs.Prelude.{Option, Some, None, codes, nat_eq, nat_lt, not, if◌then◌else◌}
use Rattle.fixdec.specs.Decimal.{Decimal}
use Rattle.lensmodel.specs.Files.Causes.{or_first, fault_if}
use Rattle.lensmodel.specs.Files.JobFaults.{is_WAVE, is_RES, is_WIDTH, is_PUPIL, wrong_count, second, decimals_offence, PUPIL_offence, offence}
use Rattle.lensmodel.specs.Files.Records.{Words, has_tag, last_where, count_where, some_where}
use Rattle.lensmodel.specs.Setup.Ranges.{is_positive, is_residual, is_width, is_fan, is_grid}
use Rattle.lensmodel.specs.declared.fault.JobFault.{JobFault}
use Rattle.lensmodel.specs.declared.fault.JobFault.TheVariants.{Word}
use Rattle.jobtext.specs.Readers.{IsAt, last_of}
use Rattle.jobtext.specs.Records.{decimal_fault, whole_fault, aim_fault, spread_fault}
use Rattle.jobtext.specs.declared.walk.Reader.{Reader}
use Rattle.jobtext.proofs.Growth.{tagged}

-- ---- whether a line of a kind came
some-last : (is : Words → Bool) (ls : List Words) → some_where is ls ≡ is_some (last_where is ls)
some-last is [] = refl
some-last is (x ∷ ls) =
    elim (is x) as (λ b. nat_lt 0 (if b then suc (count_where is ls) else count_where is ls) ≡ is_some (or_first (last_where is ls) (if b then Some x else None))) [
      | true ↦ lt-ltb 0 (suc (count_where is ls)) (omega arith) ∙ sym (first_some (last_where is ls) x)
      | false ↦ some-last is ls ∙ ap is_some (sym (first_none (last_where is ls)))
    ]
  where
    first_some : (o : Option Words) (x : Words) → is_some (or_first o (Some x)) ≡ true
    first_some (Some y) x = refl
    first_some None x = refl

    first_none : (o : Option Words) → or_first o None ≡ o
    first_none (Some y) = refl
    first_none None = refl

came : {A : Type 0} (is : Words → Bool) (said : Words → A) (before : List Words) (o : Option A) → o ≡ last_of is said before → some_where is before ≡ is_some o
came {A = A} is said before o e = some-last is before ∙ mapped (last_where is before) ∙ ap is_some (sym e)
  where
    mapped : (p : Option Words) → is_some p ≡ is_some (option_map said p)
    mapped (Some x) = refl
    mapped None = refl

-- ---- counts of words
right_count : (n wanted : ℕ) (l : Words) → length l ≡ suc wanted → wrong_count n wanted l ≡ None
right_count n wanted l e = ap (λ (b : Bool). fault_if (not b) (Word n)) (eq-eqb (length l) (suc wanted) e)

-- ---- settings
setting : {A : Type 0} (is : Words → Bool) (said : Words → A) (n : ℕ) (before : List Words) (l : Words) (o : Option A) (rest : Option JobFault)
    → length l ≡ 2 → o ≡ last_of is said before → o ≡ None → or_first (wrong_count n 1 l) (or_first (second n is before) rest) ≡ rest
setting is said n before l o rest e s none =
    ap (λ (f : Option JobFault). or_first f (or_first (second n is before) rest)) (right_count n 1 l e)
    ∙ ap (λ (b : Bool). or_first (fault_if b (Word n)) rest) (came is said before o s ∙ ap is_some none)

pub WAVE-offence : (n : ℕ) (before : List Words) (l : Words) (r : Reader) → is_WAVE l ≡ true → length l ≡ 2 → r.wave ≡ None → IsAt before r
    → offence n before l ≡ decimal_fault n is_positive l
WAVE-offence n before l r h e none at = tagged (codes "WAVE") (λ (x : Words). length x ≡ 2 → offence n before x ≡ decimal_fault n is_positive x)
    (λ more len. setting is_WAVE _ n before (codes "WAVE" ∷ more) r.wave _ len at.wave none) l h e

pub RES-offence : (n : ℕ) (before : List Words) (l : Words) (r : Reader) → is_RES l ≡ true → length l ≡ 2 → r.res ≡ None → IsAt before r
    → offence n before l ≡ whole_fault n is_residual l
RES-offence n before l r h e none at = tagged (codes "RES") (λ (x : Words). length x ≡ 2 → offence n before x ≡ whole_fault n is_residual x)
    (λ more len. setting is_RES _ n before (codes "RES" ∷ more) r.res _ len at.res none) l h e

pub WIDTH-offence : (n : ℕ) (before : List Words) (l : Words) (r : Reader) → is_WIDTH l ≡ true → length l ≡ 2 → r.width ≡ None → IsAt before r
    → offence n before l ≡ decimal_fault n is_width l
WIDTH-offence n before l r h e none at = tagged (codes "WIDTH") (λ (x : Words). length x ≡ 2 → offence n before x ≡ decimal_fault n is_width x)
    (λ more len. setting is_WIDTH _ n before (codes "WIDTH" ∷ more) r.width _ len at.width none) l h e

pub PUPIL-offence : (n : ℕ) (before : List Words) (l : Words) → is_PUPIL l ≡ true → offence n before l ≡ PUPIL_offence n l
PUPIL-offence n before l h = tagged (codes "PUPIL") (λ (x : Words). offence n before x ≡ PUPIL_offence n x) (λ more. refl) l h

-- ---- a second line of a setting
setting_again : {A : Type 0} (is : Words → Bool) (said : Words → A) (n : ℕ) (before : List Words) (l : Words) (o : Option A) (a : A) (rest : Option JobFault)
    → o ≡ last_of is said before → o ≡ Some a → or_first (wrong_count n 1 l) (or_first (second n is before) rest) ≡ Some (Word n)
setting_again is said n before l o a rest s some =
    ap (λ (b : Bool). or_first (wrong_count n 1 l) (or_first (fault_if b (Word n)) rest)) (came is said before o s ∙ ap is_some some)
    ∙ elim (not (nat_eq (length l) 2)) as (λ b. or_first (fault_if b (Word n)) (Some (Word n)) ≡ Some (Word n)) [ true ↦ refl | false ↦ refl ]

pub WAVE-again : (n : ℕ) (before : List Words) (l : Words) (r : Reader) (a : Decimal) → is_WAVE l ≡ true → r.wave ≡ Some a → IsAt before r
    → offence n before l ≡ Some (Word n)
WAVE-again n before l r a h some at = tagged (codes "WAVE") (λ (x : Words). offence n before x ≡ Some (Word n))
    (λ more. setting_again is_WAVE _ n before (codes "WAVE" ∷ more) r.wave a _ at.wave some) l h

pub RES-again : (n : ℕ) (before : List Words) (l : Words) (r : Reader) (a : ℕ) → is_RES l ≡ true → r.res ≡ Some a → IsAt before r
    → offence n before l ≡ Some (Word n)
RES-again n before l r a h some at = tagged (codes "RES") (λ (x : Words). offence n before x ≡ Some (Word n))
    (λ more. setting_again is_RES _ n before (codes "RES" ∷ more) r.res a _ at.res some) l h

pub WIDTH-again : (n : ℕ) (before : List Words) (l : Words) (r : Reader) (a : Decimal) → is_WIDTH l ≡ true → r.width ≡ Some a → IsAt before r
    → offence n before l ≡ Some (Word n)
WIDTH-again n before l r a h some at = tagged (codes "WIDTH") (λ (x : Words). offence n before x ≡ Some (Word n))
    (λ more. setting_again is_WIDTH _ n before (codes "WIDTH" ∷ more) r.width a _ at.width some) l h

-- ---- asks
pub RAY-offence : (n : ℕ) (before : List Words) (l : Words) → has_tag (codes "RAY") l ≡ true → offence n before l ≡ decimals_offence n 4 l
RAY-offence n before l h = tagged (codes "RAY") (λ (x : Words). offence n before x ≡ decimals_offence n 4 x) (λ more. refl) l h

pub FIRST-offence : (n : ℕ) (before : List Words) (l : Words) → has_tag (codes "FIRST") l ≡ true → offence n before l ≡ decimals_offence n 2 l
FIRST-offence n before l h = tagged (codes "FIRST") (λ (x : Words). offence n before x ≡ decimals_offence n 2 x) (λ more. refl) l h

pub SEIDEL-offence : (n : ℕ) (before : List Words) (l : Words) → has_tag (codes "SEIDEL") l ≡ true → offence n before l ≡ decimals_offence n 4 l
SEIDEL-offence n before l h = tagged (codes "SEIDEL") (λ (x : Words). offence n before x ≡ decimals_offence n 4 x) (λ more. refl) l h

pub AIM-offence : (n : ℕ) (before : List Words) (l : Words) (r : Reader) → has_tag (codes "AIM") l ≡ true → IsAt before r
    → offence n before l ≡ aim_fault n (is_some r.pupil) l
AIM-offence n before l r h at = tagged (codes "AIM") (λ (x : Words). offence n before x ≡ aim_fault n (is_some r.pupil) x)
    (λ more. ap (λ (b : Bool). aim_fault n b (codes "AIM" ∷ more)) (came is_PUPIL _ before r.pupil at.pupil)) l h

pub FAN-offence : (n : ℕ) (before : List Words) (l : Words) (r : Reader) → has_tag (codes "FAN") l ≡ true → IsAt before r
    → offence n before l ≡ spread_fault n is_fan (is_some r.pupil) l
FAN-offence n before l r h at = tagged (codes "FAN") (λ (x : Words). offence n before x ≡ spread_fault n is_fan (is_some r.pupil) x)
    (λ more. ap (λ (b : Bool). spread_fault n is_fan b (codes "FAN" ∷ more)) (came is_PUPIL _ before r.pupil at.pupil)) l h

pub SPOT-offence : (n : ℕ) (before : List Words) (l : Words) (r : Reader) → has_tag (codes "SPOT") l ≡ true → IsAt before r
    → offence n before l ≡ spread_fault n is_grid (is_some r.pupil) l
SPOT-offence n before l r h at = tagged (codes "SPOT") (λ (x : Words). offence n before x ≡ spread_fault n is_grid (is_some r.pupil) x)
    (λ more. ap (λ (b : Bool). spread_fault n is_grid b (codes "SPOT" ∷ more)) (came is_PUPIL _ before r.pupil at.pupil)) l h
