-- Planes, where one of a chain's heights is left open.
use Rattle.std.proofs.Common.{[], ◌∷◌}
use Rattle.std.specs.Prelude.{pos}
use Rattle.fixdec.specs.Frac.{Frac, ◌≈◌, ◌≤Q◌, ◌+Q◌, ◌*Q◌, whole}
use Rattle.fixdec.specs.Algebra.Linear.{linear, linear_le, name, order, no_fact, reads}
use Rattle.fixdec.specs.Algebra.OrderLaws.{zero_le_one}
use Rattle.lensmodel.specs.Equations.Residual.{IsWithin}

pub exact : {eps a b : Frac} → whole (pos 0) ≤Q eps → a ≈ b → IsWithin eps a b
exact {eps} {a} {b} n p = record {
  above = linear_le (eps ∷ b ∷ a ∷ []) _ _ (search reads depth 12) (order zero_le_one n (search reads depth 12) (name p (search reads depth 12) no_fact)) tt;
  below = linear_le (eps ∷ b ∷ a ∷ []) _ _ (search reads depth 12) (order zero_le_one n (search reads depth 12) (name p (search reads depth 12) no_fact)) tt;
}

-- a plane's equation holds where the sag is 0
pub flat_conic : {eps : Frac} (c x v : Frac) → whole (pos 0) ≤Q eps → c ≈ whole (pos 0) → v ≈ whole (pos 0) → IsWithin eps (c *Q x) (whole (pos 2) *Q v)
flat_conic c x v n p q =
    exact n (linear (c ∷ x ∷ v ∷ []) _ _ (search reads depth 12) (name p (search reads depth 12) (name q (search reads depth 12) no_fact)) tt)

-- and the side of the crossing is that of the ray
pub flat_side : (s c x v : Frac) → c ≈ whole (pos 0) → whole (pos 0) ≤Q v → s *Q (c *Q x) ≤Q v
flat_side s c x v p n =
    linear_le (s ∷ c ∷ x ∷ v ∷ []) _ _ (search reads depth 12) (order zero_le_one n (search reads depth 12) (name p (search reads depth 12) no_fact)) tt

pub flat_rho : (y : Frac) → y *Q y ≈ whole (pos 0) *Q whole (pos 0) +Q y *Q y
flat_rho y = linear (y ∷ []) _ _ (search reads depth 12) no_fact tt

-- a level line keeps its height
pub flat_line : (y t : Frac) → y ≈ y +Q whole (pos 0) *Q t
flat_line y t = linear (y ∷ t ∷ []) _ _ (search reads depth 12) no_fact tt
