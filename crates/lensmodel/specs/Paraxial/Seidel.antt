-- The five Seidel sums: what they are of a marginal and a chief paraxial ray, and what their intervals claim.
-- Cited by the sums and by the command seidel.
use Rattle.std.specs.Prelude.{ℕ, zero, suc, ◌≡◌, ◌<◌, pos, slice_get, Some}
use Rattle.fixdec.specs.Decimal.{Decimal, value}
use Rattle.fixdec.specs.Frac.{Frac, ◌≈◌, ◌+Q◌, ◌-Q◌, ◌*Q◌, neg_Q, whole}
use Rattle.lensmodel.specs.Paraxial.FirstOrder.{Holds}
use Rattle.lensmodel.specs.Paraxial.Trace.{ParaxialRay, AreIndices, signed_index, even_value, vertex_curvature, IsParaxialFrom, last_surface}
use Rattle.lensmodel.specs.Equations.Residual.{IsWithin}
use Rattle.lensmodel.specs.Setup.Values.{surface_at, image, conic_factor, eps}
use Rattle.lensmodel.specs.declared.paraxial.Five.{Five}
use Rattle.lensmodel.specs.declared.paraxial.SeidelOut.{SeidelOut}
use Rattle.lensmodel.specs.declared.setup.Setup.{Setup}

-- spherical aberration, coma, astigmatism, Petzval curvature, distortion
pub record FiveSums : Type 0 where
  pub s1 : Frac
  pub s2 : Frac
  pub s3 : Frac
  pub s4 : Frac
  pub s5 : Frac

-- indices, the two rays, the sums of surface j and those of the whole lens
pub record SeidelChain : Type 0 where
  pub index : ℕ → Frac
  pub marginal : ParaxialRay
  pub chief : ParaxialRay
  pub sums_at : ℕ → FiveSums
  pub whole : FiveSums

-- r is one over n
abbrev pub IsInverse : Frac → Frac → Type 0
IsInverse n r = r *Q n ≈ whole (pos 1)

abbrev pub cube : Frac → Frac
cube x = x *Q x *Q x

-- the sums of a surface with the signed indices n and n', the vertex curvature cv, the heights y and yb there, and the
-- slopes u and ub before it and u' behind it
pub record AreSums (eps n n' cv y u u' yb ub asphericity : Frac) (v : FiveSums) : Type 0 where
  pub r : Frac
  pub r' : Frac
  pub a : Frac
  pub ab : Frac
  pub h : Frac
  pub p : Frac
  pub dun : Frac
  pub dn2 : Frac
  pub k8 : Frac
  pub inverse : IsInverse n r
  pub inverse' : IsInverse n' r'
  -- the refraction invariants A and Ab, Lagrange's invariant H, the Petzval term P
  pub a_is : a ≈ n *Q (y *Q cv +Q u)
  pub ab_is : ab ≈ n *Q (yb *Q cv +Q ub)
  pub h_is : h ≈ ab *Q y -Q a *Q yb
  pub p_is : p ≈ cv *Q (r' -Q r)
  -- the changes of u/n and of 1/n^2, and the aspheric term
  pub dun_is : dun ≈ u' *Q r' -Q u *Q r
  pub dn2_is : dn2 ≈ r' *Q r' -Q r *Q r
  pub k8_is : k8 ≈ asphericity *Q (n' -Q n)
  pub s1 : IsWithin eps v.s1 (k8 *Q (y *Q y *Q y *Q y) -Q a *Q a *Q y *Q dun)
  pub s2 : IsWithin eps v.s2 (k8 *Q (y *Q y *Q y *Q yb) -Q a *Q ab *Q y *Q dun)
  pub s3 : IsWithin eps v.s3 (k8 *Q (y *Q y *Q yb *Q yb) -Q ab *Q ab *Q y *Q dun)
  pub s4 : IsWithin eps v.s4 (neg_Q (h *Q h *Q p))
  pub s5 : IsWithin eps v.s5 (k8 *Q (y *Q yb *Q yb *Q yb) -Q ab *Q (ab *Q ab *Q y *Q dn2 -Q p *Q yb *Q (h +Q ab *Q y)))

-- (1 + k) c^3 + 8 a2 - cv^3 of surface j
abbrev pub asphericity : Setup → ℕ → Frac
asphericity s j =
    conic_factor s j *Q cube (value (surface_at s j).curv) +Q whole (pos 8) *Q even_value s (surface_at s j).a2 j -Q cube (vertex_curvature s j)

-- the sums of surface j + 1
abbrev pub HasSumsAt : Setup → SeidelChain → ℕ → Type 0
HasSumsAt s c j =
    AreSums (eps s) (signed_index s c.index j) (signed_index s c.index (suc j)) (vertex_curvature s (suc j))
    (c.marginal.y (suc j)) (c.marginal.u j) (c.marginal.u (suc j)) (c.chief.y (suc j)) (c.chief.u j) (asphericity s (suc j)) (c.sums_at (suc j))

-- the sum of a value over surfaces 1 to k
abbrev pub sum_to : ℕ → (ℕ → Frac) → Frac
sum_to zero v = whole (pos 0)
sum_to (suc k) v = sum_to k v +Q v (suc k)

-- the whole sums are exactly those of all surfaces before the image
pub record AreWhole (s : Setup) (c : SeidelChain) : Type 0 where
  pub s1 : c.whole.s1 ≈ sum_to (last_surface s) (λ j. (c.sums_at j).s1)
  pub s2 : c.whole.s2 ≈ sum_to (last_surface s) (λ j. (c.sums_at j).s2)
  pub s3 : c.whole.s3 ≈ sum_to (last_surface s) (λ j. (c.sums_at j).s3)
  pub s4 : c.whole.s4 ≈ sum_to (last_surface s) (λ j. (c.sums_at j).s4)
  pub s5 : c.whole.s5 ≈ sum_to (last_surface s) (λ j. (c.sums_at j).s5)

-- two paraxial rays that share one index per medium, and the sums that they make
pub record IsSeidelChain (s : Setup) (y u yb ub : Decimal) (c : SeidelChain) : Type 0 where
  pub index : AreIndices s c.index
  pub marginal : IsParaxialFrom s c.index y u c.marginal
  pub chief : IsParaxialFrom s c.index yb ub c.chief
  pub sums : (j : ℕ) → suc j < image s → HasSumsAt s c j
  pub whole : AreWhole s c

-- five intervals hold five sums
pub record HoldsFive (scale : ℕ) (out : Five) (v : FiveSums) : Type 0 where
  pub s1 : Holds scale out.s1 v.s1
  pub s2 : Holds scale out.s2 v.s2
  pub s3 : Holds scale out.s3 v.s3
  pub s4 : Holds scale out.s4 v.s4
  pub s5 : Holds scale out.s5 v.s5

-- what is claimed of each chain; place j of the list is surface j + 1
pub record HoldsSeidel (out : SeidelOut) (c : SeidelChain) : Type 0 where
  pub per : (j : ℕ) (five : Five) → slice_get out.per.items j ≡ Some five → HoldsFive out.scale five (c.sums_at (suc j))
  pub whole : HoldsFive out.scale out.whole c.whole
