-- The values of the even terms' polynomial, each step by the one behind it.
use Rattle.std.proofs.Common.{◌≡◌, ℕ, List, [], ◌∷◌, refl, ap, ◌∙◌}
use Rattle.fixdec.specs.Operations.{Operations}
use Rattle.fixdec.specs.Steps.{◌>>=◌}
use Rattle.fixdec.specs.declared.step.Step.{Step}
use Rattle.fixdec.specs.declared.step.Step.TheVariants.{Val, Empty, Lost}
use Rattle.lensmodel.specs.Rows.Sag.{horner_rows, horner_step}
use Rattle.sagform.specs.Polynomials.{term_row}

module _ {A : Type 0} (o : Operations A) (scale : ℕ) where
  -- a coefficient before the values behind it
  abbrev pub value_before : A → A → List A → Step (List A)
  value_before u b [] = Val (b ∷ [])
  value_before u b (v ∷ vs) = term_row o scale b u v >>= λ x. Val (x ∷ v ∷ vs)

  -- V1, V2, .. of the coefficients that are left
  abbrev pub values_down : A → List A → Step (List A)
  values_down u [] = Val []
  values_down u (b ∷ more) = values_down u more >>= λ vs. value_before u b vs

  then_again : (t : Step A) (b : A) (vs : List A) → (t >>= λ p. o.plus b p >>= λ x. Val (x ∷ vs)) ≡ ((t >>= λ p. o.plus b p) >>= λ x. Val (x ∷ vs))
  then_again (Val p) b vs = refl
  then_again Empty b vs = refl
  then_again (Lost why) b vs = refl

  step_is : (u b : A) (vs : List A) → horner_step o u b vs ≡ value_before u b vs
  step_is u b [] = refl
  step_is u b (v ∷ vs) = then_again (o.times u v) b (v ∷ vs)

  steps_are : (r : Step (List A)) (u b : A) → (r >>= λ vs. horner_step o u b vs) ≡ (r >>= λ vs. value_before u b vs)
  steps_are (Val vs) u b = step_is u b vs
  steps_are Empty u b = refl
  steps_are (Lost why) u b = refl

  -- they are the rows of the polynomial
  pub values_are : (u : A) (bs : List A) → horner_rows o u bs ≡ values_down u bs
  values_are u [] = refl
  values_are u (b ∷ more) = steps_are (horner_rows o u more) u b ∙ ap (λ (r : Step (List A)). r >>= λ vs. value_before u b vs) (values_are u more)
