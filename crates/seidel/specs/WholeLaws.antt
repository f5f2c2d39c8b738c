-- Sums of rows from left to right hold the sums of what the rows hold. Cited by proofs.
use Rattle.std.proofs.Common.{◌≡◌, ℕ, suc, ◌+◌, List, [], ◌∷◌, length, refl, subst, arith}
use Rattle.std.specs.Prelude.{pos}
use Rattle.fixdec.specs.Algebra.FracLaws.{≈_sym}
use Rattle.fixdec.specs.Algebra.Linear.{linear, no_fact, reads}
use Rattle.fixdec.specs.Frac.{Frac, ◌≈◌, ◌+Q◌, whole}
use Rattle.fixdec.specs.Member.{Symbols}
use Rattle.fixdec.specs.Operations.{Operations, IsLawful}
use Rattle.fixdec.specs.Steps.{◌>>=◌, OnVal, OnVal-then}
use Rattle.firstorder.specs.Tracks.{OnDone}
use Rattle.lensmodel.specs.Paraxial.Losses.{Worked, done, gone, to_step, row}
use Rattle.lensmodel.specs.Paraxial.Seidel.{sum_to}
use Rattle.lensmodel.specs.Paraxial.SeidelRows.{added, totals, last}
use Rattle.seidel.specs.Held.{to_step-holds, row-holds}

-- rows hold the values of v from i + 1 on, one by one
abbrev pub HoldsFrom : {A : Type 0} → (A → Frac → Type 0) → (ℕ → Frac) → ℕ → List (Worked A) → Type 0
HoldsFrom holds v i [] = Unit {0}
HoldsFrom holds v i (w ∷ more) = OnDone w (λ x. holds x (v (suc i))) × HoldsFrom holds v (suc i) more

module _ {A : Type 0} (scale : ℕ) (o : Operations A) (member : A → Symbols → Frac → Type 0) (law : IsLawful scale o member) (sy : Symbols) (v : ℕ → Frac) where
  -- a row that isn't lost holds a fraction
  abbrev Has : Worked A → Frac → Type 0
  Has w f = OnDone w (λ x. member x sy f)

  same-holds : (w : Worked A) (f g : Frac) → f ≈ g → Has w f → Has w g
  same-holds (done a) f g e h = law.same sy a f g e h
  same-holds (gone n why) f g e h = tt

  -- a total with one number more
  abbrev more_of : ℕ → Worked A → Worked A → Worked A
  more_of n t w = row n (t ∷ w ∷ []) (do o.plus (← to_step t) (← to_step w))

  more-holds : (n : ℕ) (t w : Worked A) (f g : Frac) → Has t f → Has w g → Has (more_of n t w) (f +Q g)
  more-holds n t w f g h k =
      row-holds n (t ∷ w ∷ []) _ (λ x. member x sy (f +Q g)) (
      OnVal-then (to_step t) _ (λ x. member x sy f) _ (to_step-holds t (λ x. member x sy f) h) λ x k1.
      OnVal-then (to_step w) _ (λ x. member x sy g) _ (to_step-holds w (λ x. member x sy g) k) λ y k2. law.plus sy x y f g k1 k2)

  last-added : (n : ℕ) (t u : Worked A) (more : List (Worked A)) → last o scale (t ∷ added o scale n u more) ≡ last o scale (added o scale n u more)
  last-added n t u [] = refl
  last-added n t u (w ∷ more) = refl

  added-holds : (n i : ℕ) (t : Worked A) (more : List (Worked A)) → Has t (sum_to i v) → HoldsFrom (λ x f. member x sy f) v i more
      → Has (last o scale (added o scale n t more)) (sum_to (i + length more) v)
  added-holds n i t [] h k = let e : i ≡ i + 0 = omega arith in subst (λ (m : ℕ). Has t (sum_to m v)) e h
  added-holds n i t (w ∷ more) h k =
      let e : suc i + length more ≡ i + suc (length more) = omega arith in
      rw (last-added n t (more_of n t w) more) (
      subst (λ (m : ℕ). Has (last o scale (added o scale n (more_of n t w) more)) (sum_to m v)) e
      (added-holds n (suc i) (more_of n t w) more (more-holds n t w (sum_to i v) (v (suc i)) h k.0) k.1))

  -- the last total holds the sum of all
  pub total-holds : (n : ℕ) (all : List (Worked A)) (f : Frac) → f ≈ sum_to (length all) v → HoldsFrom (λ x f. member x sy f) v 0 all
      → Has (last o scale (totals o scale n all)) f
  total-holds n [] f e k = tt
  total-holds n (w ∷ more) f e k =
      same-holds (last o scale (added o scale n w more)) (sum_to (suc (length more)) v) f (≈_sym e)
      (subst (λ (m : ℕ). Has (last o scale (added o scale n w more)) (sum_to m v)) one_more
      (added-holds n 1 w more (same-holds w (v 1) (sum_to 1 v) (linear (v 1 ∷ []) _ _ (search reads depth 12) no_fact tt) k.0) k.1))
    where
      one_more : 1 + length more ≡ suc (length more)
      one_more = omega arith
