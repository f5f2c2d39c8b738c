-- The rows of the even terms, with the last value alone in hand.
use Rattle.std.proofs.Common.{◌≡◌, ℕ, List, [], ◌∷◌, refl, ap, ◌∙◌}
use Rattle.std.specs.Prelude.{pos}
use Rattle.fixdec.specs.Operations.{Operations}
use Rattle.fixdec.specs.Steps.{◌>>=◌}
use Rattle.fixdec.specs.declared.step.Step.{Step}
use Rattle.fixdec.specs.declared.step.Step.TheVariants.{Val, Empty, Lost}
use Rattle.lensmodel.specs.Rows.Constants.{whole_row}
use Rattle.lensmodel.specs.Rows.Sag.{horner_rows, horner_step, polynomial_row, first_of}

module _ {A : Type 0} (o : Operations A) (scale : ℕ) where
  -- bi + (u*V(i+1))
  abbrev pub term_row : A → A → A → Step A
  term_row b u v = do
    o.plus b (← o.times u v)

  -- i*bi
  abbrev pub weighted_row : ℕ → A → Step A
  weighted_row i b = do
    o.times (← whole_row o scale (pos i)) b

  -- (i*bi) + (u*W(i+1))
  abbrev pub slope_term_row : ℕ → A → A → A → Step A
  slope_term_row i b u w = do
    o.plus (← weighted_row i b) (← o.times u w)

  -- V1, from the last coefficient down
  abbrev pub last_value : A → List A → Step A
  last_value u [] = whole_row o scale (pos 0)
  last_value u (b ∷ []) = Val b
  last_value u (b ∷ c ∷ more) = last_value u (c ∷ more) >>= λ v. term_row b u v

  first_kept : (x : Step A) (vs : List A) → ((x >>= λ y. Val (y ∷ vs)) >>= λ ws. first_of o scale ws) ≡ x
  first_kept (Val y) vs = refl
  first_kept Empty vs = refl
  first_kept (Lost w) vs = refl

  step_kept : (t : Step A) (b : A) (vs : List A) → ((t >>= λ p. o.plus b p >>= λ y. Val (y ∷ vs)) >>= λ ws. first_of o scale ws) ≡ (t >>= λ p. o.plus b p)
  step_kept (Val p) b vs = first_kept (o.plus b p) vs
  step_kept Empty b vs = refl
  step_kept (Lost w) b vs = refl

  -- one step more, after at least one
  after_step : (x : Step A) (u b : A) (vs : List A)
      → (((x >>= λ y. Val (y ∷ vs)) >>= λ ws. horner_step o u b ws) >>= λ ws. first_of o scale ws) ≡ ((x >>= λ y. Val (y ∷ vs)) >>= λ ws. first_of o scale ws) >>= λ v. term_row b u v
  after_step (Val y) u b vs = step_kept (o.times u y) b (y ∷ vs)
  after_step Empty u b vs = refl
  after_step (Lost w) u b vs = refl

  after_sum : (t : Step A) (u b c : A) (vs : List A)
      → (((t >>= λ p. o.plus c p >>= λ y. Val (y ∷ vs)) >>= λ ws. horner_step o u b ws) >>= λ ws. first_of o scale ws)
      ≡ ((t >>= λ p. o.plus c p >>= λ y. Val (y ∷ vs)) >>= λ ws. first_of o scale ws) >>= λ v. term_row b u v
  after_sum (Val p) u b c vs = after_step (o.plus c p) u b vs
  after_sum Empty u b c vs = refl
  after_sum (Lost w) u b c vs = refl

  after_rows : (r : Step (List A)) (u b c : A)
      → (((r >>= λ vs. horner_step o u c vs) >>= λ ws. horner_step o u b ws) >>= λ ws. first_of o scale ws)
      ≡ ((r >>= λ vs. horner_step o u c vs) >>= λ ws. first_of o scale ws) >>= λ v. term_row b u v
  after_rows (Val []) u b c = step_kept (o.times u c) b (c ∷ [])
  after_rows (Val (v ∷ vs)) u b c = after_sum (o.times u v) u b c (v ∷ vs)
  after_rows Empty u b c = refl
  after_rows (Lost w) u b c = refl

  pub polynomial_is : (u : A) (bs : List A) → polynomial_row o scale u bs ≡ last_value u bs
  polynomial_is u [] = refl
  polynomial_is u (b ∷ []) = refl
  polynomial_is u (b ∷ c ∷ more) = after_rows (horner_rows o u more) u b c ∙ ap (λ (r : Step A). r >>= λ v. term_row b u v) (polynomial_is u (c ∷ more))
