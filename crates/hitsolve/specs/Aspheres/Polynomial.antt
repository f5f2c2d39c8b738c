-- The polynomial of an even asphere and its difference quotient are members of what their rows give.
use Rattle.std.proofs.Common.{ℕ, [], ◌∷◌, List}
use Rattle.std.specs.Prelude.{pos}
use Rattle.fixdec.specs.Frac.{Frac, ◌≈◌, ◌*Q◌, ◌-Q◌}
use Rattle.fixdec.specs.Algebra.Linear.{linear, fact, no_fact, reads}
use Rattle.fixdec.specs.Member.{Symbols}
use Rattle.fixdec.specs.Operations.{Operations, IsLawful}
use Rattle.fixdec.specs.Steps.{OnVal, OnVal-then}
use Rattle.lensmodel.specs.Rows.Laws.{whole_member}
use Rattle.lensmodel.specs.Rows.Sag.{horner_step, horner_rows, first_of, polynomial_row}
use Rattle.lensmodel.specs.Rows.SlopeRounds.{quotient_row}
use Rattle.hitsolve.specs.Aspheres.Meeting.{polynomial, HoldsAll}

-- V1, V2, ..: the values of the polynomials that are left after each coefficient
abbrev pub horner_values : List Frac → Frac → List Frac
horner_values [] u = []
horner_values (b ∷ more) u = polynomial (b ∷ more) u ∷ horner_values more u

-- Q0: the polynomial of the values at one place, at another; it is the difference quotient of u times the polynomial
pub quotient_is : (b : List Frac) (u v : Frac)
    → polynomial (horner_values b v) u *Q (u -Q v) ≈ u *Q polynomial b u -Q v *Q polynomial b v
quotient_is [] u v = linear (u ∷ v ∷ []) _ _ (search reads depth 20 fits 4000) no_fact tt
quotient_is (b ∷ more) u v =
    linear (b ∷ u ∷ v ∷ polynomial more u ∷ polynomial more v ∷ polynomial (horner_values more v) u ∷ []) _ _ (search reads depth 20 fits 4000)
    (fact u (quotient_is more u v) (search reads depth 20 fits 4000) no_fact) tt

module _ {A : Type 0} (scale : ℕ) (o : Operations A) (member : A → Symbols → Frac → Type 0) (law : IsLawful scale o member) (sy : Symbols) where
  step-member : (u b : A) (vs : List A) (x v : Frac) (more : List Frac) → member u sy x → member b sy v → HoldsAll member sy vs (horner_values more x)
      → OnVal (horner_step o u b vs) (λ r. HoldsAll member sy r (horner_values (v ∷ more) x))
  step-member u b [] x v [] hu hb h = (law.same sy b _ _ (linear (x ∷ v ∷ []) _ _ (search reads depth 20 fits 4000) no_fact tt) hb, tt)
  step-member u b [] x v (w ∷ more) hu hb h = absurd h
  step-member u b (a ∷ vs) x v [] hu hb h = absurd h
  step-member u b (a ∷ vs) x v (w ∷ more) hu hb h =
      OnVal-then (o.times u a) _ (λ r. member r sy (x *Q polynomial (w ∷ more) x)) _ (law.times sy u a x _ hu h.0) λ r hr.
      OnVal-then (o.plus b r) _ (λ r. member r sy (polynomial (v ∷ w ∷ more) x)) _ (law.plus sy b r v _ hb hr) λ t ht.
      (ht, h)

  pub horner_rows-member : (u : A) (x : Frac) (bs : List A) (vs : List Frac) → member u sy x → HoldsAll member sy bs vs
      → OnVal (horner_rows o u bs) (λ r. HoldsAll member sy r (horner_values vs x))
  horner_rows-member u x [] [] hu h = tt
  horner_rows-member u x [] (v ∷ vs) hu h = absurd h
  horner_rows-member u x (b ∷ bs) [] hu h = absurd h
  horner_rows-member u x (b ∷ bs) (v ∷ vs) hu h =
      OnVal-then (horner_rows o u bs) _ (λ r. HoldsAll member sy r (horner_values vs x)) _ (horner_rows-member u x bs vs hu h.1) λ r hr.
      step-member u b r x v vs hu h.0 hr

  pub first-member : (vs : List A) (bs : List Frac) (x : Frac) → HoldsAll member sy vs (horner_values bs x)
      → OnVal (first_of o scale vs) (λ r. member r sy (polynomial bs x))
  first-member [] [] x h = whole_member scale o member law sy (pos 0)
  first-member [] (b ∷ bs) x h = absurd h
  first-member (v ∷ vs) [] x h = absurd h
  first-member (v ∷ vs) (b ∷ bs) x h = h.0

  pub polynomial_row-member : (u : A) (x : Frac) (bs : List A) (vs : List Frac) → member u sy x → HoldsAll member sy bs vs
      → OnVal (polynomial_row o scale u bs) (λ r. member r sy (polynomial vs x))
  polynomial_row-member u x bs vs hu h =
      OnVal-then (horner_rows o u bs) _ (λ r. HoldsAll member sy r (horner_values vs x)) _ (horner_rows-member u x bs vs hu h) λ r hr.
      first-member r vs x hr

  -- each value plus u times what follows
  pub quotient_row-member : (u : A) (x : Frac) (vs : List A) (fs : List Frac) → member u sy x → HoldsAll member sy vs fs
      → OnVal (quotient_row o scale u vs) (λ r. member r sy (polynomial fs x))
  quotient_row-member u x [] [] hu h = whole_member scale o member law sy (pos 0)
  quotient_row-member u x [] (f ∷ fs) hu h = absurd h
  quotient_row-member u x (v ∷ vs) [] hu h = absurd h
  quotient_row-member u x (v ∷ []) (f ∷ []) hu h = law.same sy v _ _ (linear (x ∷ f ∷ []) _ _ (search reads depth 20 fits 4000) no_fact tt) h.0
  quotient_row-member u x (v ∷ []) (f ∷ g ∷ fs) hu h = absurd h.1
  quotient_row-member u x (v ∷ w ∷ vs) (f ∷ []) hu h = absurd h.1
  quotient_row-member u x (v ∷ w ∷ vs) (f ∷ g ∷ fs) hu h =
      OnVal-then (quotient_row o scale u (w ∷ vs)) _ (λ r. member r sy (polynomial (g ∷ fs) x)) _ (quotient_row-member u x (w ∷ vs) (g ∷ fs) hu h.1) λ q hq.
      OnVal-then (o.times u q) _ (λ r. member r sy (x *Q polynomial (g ∷ fs) x)) _ (law.times sy u q x _ hu hq) λ t ht.
      law.plus sy v t f _ h.0 ht
