-- Laws of single rows: written numbers, exact equations and equations within the residual, in every lawful arithmetic.
-- Cited by proofs.
use Rattle.std.proofs.Common.{ℕ, [], ◌∷◌}
use Rattle.std.specs.Prelude.{ℤ, pos}
use Rattle.fixdec.specs.Decimal.{Decimal, value}
use Rattle.fixdec.specs.Frac.{Frac, ◌≈◌, ◌≤Q◌, ◌*Q◌, whole}
use Rattle.fixdec.specs.Algebra.FracLaws.{≈_sym}
use Rattle.fixdec.specs.Algebra.Linear.{linear, linear_le, name, order, no_fact, reads}
use Rattle.fixdec.specs.Member.{IsMember, IsNear, Symbols, units}
use Rattle.fixdec.specs.Algebra.MemberLaws.{units_nn}
use Rattle.fixdec.specs.Operations.{Operations, IsLawful}
use Rattle.fixdec.specs.Algebra.OrderLaws.{le_same_left, le_same_right, zero_le_one}
use Rattle.fixdec.specs.Algebra.PowerLaws.{dec_span_member}
use Rattle.fixdec.specs.Scaled.{dec_span}
use Rattle.fixdec.specs.Steps.{OnVal, OnVal-then, OnVal-map}
use Rattle.fixdec.specs.declared.step.Step.{Step}
use Rattle.lensmodel.specs.Rows.Constants.{decimal_row, whole_row}
use Rattle.lensmodel.specs.Equations.Residual.{IsWithin}

-- e units of the scale cover the residual
abbrev pub Covers : ℕ → Frac → ℤ → Type 0
Covers scale eps e = eps *Q units scale ≤Q whole e

-- two numbers within eps are near in units of the scale
pub near_within : (scale : ℕ) (e : ℤ) (eps f g : Frac) → Covers scale eps e → IsWithin eps g f → IsNear scale e f g
near_within scale e eps f g h w = record {
  above = linear_le (f ∷ g ∷ eps ∷ units scale ∷ whole e ∷ []) _ _ (search reads depth 20 fits 4000)
      (order (units_nn scale) w.below (search reads depth 20 fits 4000) (order zero_le_one h (search reads depth 20 fits 4000) no_fact)) tt;
  below = linear_le (f ∷ g ∷ eps ∷ units scale ∷ whole e ∷ []) _ _ (search reads depth 20 fits 4000)
      (order (units_nn scale) w.above (search reads depth 20 fits 4000) (order zero_le_one h (search reads depth 20 fits 4000) no_fact)) tt;
}

-- equal sides may be exchanged
pub within_right : (eps a b c : Frac) → b ≈ c → IsWithin eps a b → IsWithin eps a c
within_right eps a b c h w = record {
  above = le_same_left (≈_sym h) w.above;
  below = le_same_right w.below (linear (b ∷ c ∷ eps ∷ []) _ _ (search reads depth 16) (name h (search reads depth 16) no_fact) tt);
}

module _ {A : Type 0} (scale : ℕ) (o : Operations A) (member : A → Symbols → Frac → Type 0) (law : IsLawful scale o member) (s : Symbols) where
  -- an answer that holds a fraction holds each equal one
  pub on_same : (r : Step A) (u v : Frac) → u ≈ v → OnVal r (λ x. member x s u) → OnVal r (λ x. member x s v)
  on_same r u v h k = OnVal-map r (λ x. member x s u) (λ x. member x s v) (λ x m. law.same s x u v h m) k

  -- a decimal's value, and a whole number
  pub decimal_member : (d : Decimal) → OnVal (decimal_row o scale d) (λ r. member r s (value d))
  decimal_member d =
      OnVal-then (dec_span scale d) _ (λ a. IsMember scale a (value d)) _ (dec_span_member scale d) λ a h. law.of_span s a (value d) h

  pub whole_member : (z : ℤ) → OnVal (whole_row o scale z) (λ r. member r s (whole z))
  whole_member z =
      on_same (whole_row o scale z) (value (record { mant = z; exp = pos 0 })) (whole z)
      (linear (whole z ∷ []) _ _ (search reads depth 12) no_fact tt) (decimal_member (record { mant = z; exp = pos 0 }))

  -- a widened value holds what its equation gives within the residual
  pub widened : (eps : Frac) (e : ℤ) → Covers scale eps e → (a : A) (f g : Frac) → member a s f → IsWithin eps g f
      → OnVal (o.widen a e) (λ r. member r s g)
  widened eps e c a f g m w = law.widen s a e f g m (near_within scale e eps f g c w)
