-- The tolerances of lines none of which offends make a box.
use Rattle.std.proofs.Common.{◌≡◌, ℕ, suc, ◌+◌, ◌<◌, ◌≤◌, Bool, true, false, List, [], ◌∷◌, ◌++◌, length, append_assoc, refl, sym, subst, ap, ◌∙◌, arith}
use Rattle.std.proofs.lemmas.Bool.{eqb-true, eqb-false, eq-eqb, ne_eqb, leb-false, not-false}
use Rattle.std.proofs.lemmas.List.{append-nil, length_push, map-append}
use Rattle.std.proofs.lemmas.List.Elements.{All-nil, All-cons, All-push, All-get_or, filter-append}
use Rattle.std.proofs.lemmas.List.Quantifiers.{all_pairs_push}
use Rattle.std.specs.List.{All, filter}
use Rattle.std.specs.Prelude.{Option, Some, None, Result, Ok, IfOk, IsTrue, ◌&&◌, ◌||◌, cond, map, nat_eq, nat_le, not, is_none, if◌then◌else◌}
use Rattle.lensmodel.specs.Files.Causes.{or_first, fault_if, first_fault, ok_unless}
use Rattle.lensmodel.specs.Files.Records.{Words, word_at, first_offence}
use Rattle.lensmodel.specs.Files.Tolerances.{is_TOL, kind_of, tol_of, all_tols, is_wrong, has_bad, tol_faults, offence, box_of, of_lines}
use Rattle.lensmodel.specs.Setup.Media.{has_tolerance}
use Rattle.lensmodel.specs.Setup.Ranges.{is_not_negative, has_place}
use Rattle.lensmodel.specs.Setup.Values.{same_kind, stands_on}
use Rattle.lensmodel.specs.Setup.WellFormed.{IsBox}
use Rattle.lensmodel.specs.declared.fault.TolFault.{TolFault}
use Rattle.lensmodel.specs.declared.fault.TolFault.TheVariants.{Word, BadNumber, Negative, NoSurface, Twice, TooMany}
use Rattle.lensmodel.specs.declared.tolerance.Tol.{Tol}
use Rattle.lensmodel.specs.declared.tolerance.TolBox.{TolBox}
use Rattle.lensmodel.specs.declared.tolerance.TolKind.{TolKind}
use Rattle.lensmodel.specs.declared.tolerance.TolKind.TheVariants.{Curv, Thic, Indx}

-- ---- causes none of which stands
none-first : {F : Type 0} (a b : Option F) → or_first a b ≡ None → (a ≡ None) × (b ≡ None)
none-first (Some x) b h = cc
none-first None b h = (refl, h)

not-stands : {F : Type 0} (b : Bool) (f : F) → fault_if b f ≡ None → b ≡ false
not-stands true f h = cc
not-stands false f h = refl

-- ---- one value, one tolerance
kind-turned : (a b : TolKind) → same_kind a b ≡ same_kind b a
kind-turned Curv Curv = refl
kind-turned Curv Thic = refl
kind-turned Curv Indx = refl
kind-turned Thic Curv = refl
kind-turned Thic Thic = refl
kind-turned Thic Indx = refl
kind-turned Indx Curv = refl
kind-turned Indx Thic = refl
kind-turned Indx Indx = refl

place-turned : (i j : ℕ) → nat_eq i j ≡ nat_eq j i
place-turned i j =
    elim (nat_eq i j) as (λ b. nat_eq i j ≡ b → b ≡ nat_eq j i) [
      | true ↦ (λ e. sym (eq-eqb j i (sym (eqb-true i j e))))
      | false ↦ (λ e. sym (ne_eqb j i (λ p. eqb-false i j e (sym p))))
    ] refl

stands-turned : (t u : Tol) → stands_on t.kind t.surface u ≡ stands_on u.kind u.surface t
stands-turned t u = (λ i. kind-turned u.kind t.kind i && place-turned u.surface t.surface i)

abbrev IsApart : Tol → Tol → Type 0
IsApart t u = IsTrue (not (stands_on t.kind t.surface u))

not-there : (b rest : Bool) → (if b then true else rest) ≡ false → (b ≡ false) × (rest ≡ false)
not-there true rest h = cc
not-there false rest h = (refl, h)

apart : (u : Tol) (ts : List Tol) → has_tolerance ts u.kind u.surface ≡ false → All (λ t. IsApart t u) ts
apart u [] h = All-nil (λ t. IsApart t u)
apart u (t ∷ ts) h =
    let n = not-there (stands_on u.kind u.surface t) (has_tolerance ts u.kind u.surface) h in
    All-cons (λ t. IsApart t u) t ts (ap not (stands-turned t u ∙ n.0)) (apart u ts n.1)

-- ---- one more tolerance
room : (k : ℕ) → nat_le 32 k ≡ false → k + 1 ≤ 32
room k h = let lt : k < 32 = leb-false 32 k h in omega arith

more-box : (image n : ℕ) (ts : List Tol) (t : Tol) → IsBox image ts → first_fault (tol_faults image n ts t) ≡ None → IsBox image (ts ++ t ∷ [])
more-box image n ts t box h =
    let negative = not (is_not_negative t.delta) in
    let nowhere = not (has_place image t.kind t.surface) in
    let twice = has_tolerance ts t.kind t.surface in
    let many = fault_if (nat_le 32 (length ts)) (TooMany n) in
    let p = none-first (fault_if negative (Negative n)) _ h in
    let q = none-first (fault_if nowhere (NoSurface n)) _ p.1 in
    let r = none-first (fault_if twice (Twice n)) _ q.1 in
    let s = none-first many None r.1 in
    let free = apart t ts (not-stands twice (Twice n) r.0) in
    record {
      count = subst (λ (k : ℕ). k ≤ 32) (sym (length_push ts t)) (room (length ts) (not-stands (nat_le 32 (length ts)) (TooMany n) s.0));
      deltas = All-push (λ t. IsTrue (is_not_negative t.delta)) ts t box.deltas (not-false _ (not-stands negative (Negative n) p.0));
      places = All-push (λ t. IsTrue (has_place image t.kind t.surface)) ts t box.places (not-false _ (not-stands nowhere (NoSurface n) q.0));
      once = all_pairs_push IsApart ts t box.once (λ k d lt. All-get_or (λ u. IsApart u t) ts k d lt free);
    }

-- ---- one more line
all_tols-append : (before : List Words) (l : Words) → all_tols (before ++ l ∷ []) ≡ all_tols before ++ map tol_of (filter is_TOL (l ∷ []))
all_tols-append before l = ap (map tol_of) (filter-append is_TOL before (l ∷ [])) ∙ map-append tol_of (filter is_TOL before) (filter is_TOL (l ∷ []))

right-tag : (b c d : Bool) → (not b || c || d) ≡ false → b ≡ true
right-tag true c d h = refl
right-tag false c d h = cc

next-box : (image n : ℕ) (before : List Words) (l : Words) → IsBox image (all_tols before) → offence image n before l ≡ None → IsBox image (all_tols (before ++ l ∷ []))
next-box image n before [] box h = subst (IsBox image) (sym (all_tols-append before [] ∙ append-nil (all_tols before))) box
next-box image n before (w ∷ more) box h =
    let l : Words = w ∷ more in
    let p = none-first (fault_if (is_wrong l) (Word n)) _ h in
    let q = none-first (fault_if (has_bad l) (BadNumber n)) (first_fault (tol_faults image n (all_tols before) (tol_of l))) p.1 in
    let tag = right-tag (is_TOL l) (not (nat_eq (length l) 4)) (is_none (kind_of (word_at 1 l))) (not-stands (is_wrong l) (Word n) p.0) in
    let one = ap (λ (b : Bool). all_tols before ++ map tol_of (cond b (l ∷ []) [])) tag in
    subst (IsBox image) (sym (all_tols-append before l ∙ one)) (more-box image n (all_tols before) (tol_of l) box q.1)

next-boxes : (image n : ℕ) (before ls : List Words) → IsBox image (all_tols before) → first_offence (offence image) n before ls ≡ None
    → IsBox image (all_tols (before ++ ls))
next-boxes image n before [] box h = subst (λ (ls : List Words). IsBox image (all_tols ls)) (sym (append-nil before)) box
next-boxes image n before (l ∷ ls) box h =
    let p = none-first (offence image n before l) (first_offence (offence image) (suc n) (before ++ l ∷ []) ls) h in
    subst (λ (ls : List Words). IsBox image (all_tols ls)) (append_assoc before (l ∷ []) ls)
    (next-boxes image (suc n) (before ++ l ∷ []) ls (next-box image n before l box p.0) p.1)

-- ---- the box
no-box : (image : ℕ) → IsBox image []
no-box image = record {
  count = omega arith;
  deltas = All-nil (λ t. IsTrue (is_not_negative t.delta));
  places = All-nil (λ t. IsTrue (has_place image t.kind t.surface));
  once = (λ i j d lt lt'. absurd (omega arith));
}

unless : {A F : Type 0} (P : A → Type 0) (o : Option F) (a : A) → (o ≡ None → P a) → IfOk (ok_unless o a) P
unless P None a f = f refl
unless P (Some x) a f = tt

-- what lines without a fault say is a box
pub lines-box : (image : ℕ) (ls : List Words) (b : TolBox) → of_lines image ls ≡ Ok b → IsBox image b.list.items
lines-box image ls b e = subst (λ (r : Result TolBox TolFault). IfOk r (λ b. IsBox image b.list.items)) e
    (unless (λ b. IsBox image b.list.items) (first_offence (offence image) 1 [] ls) (box_of ls) (next-boxes image 1 [] ls (no-box image)))
