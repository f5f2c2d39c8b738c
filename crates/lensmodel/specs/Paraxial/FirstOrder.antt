-- First-order values: what they are of two paraxial rays, and what their intervals claim.
-- Cited by the first-order values and by the command first.
use Rattle.std.specs.Prelude.{ℕ, suc, ◌≡◌, ◌<◌, min, pos, negsuc, slice_get, Some}
use Rattle.fixdec.specs.Decimal.{Decimal}
use Rattle.fixdec.specs.Ends.{Ends}
use Rattle.fixdec.specs.Frac.{Frac, ◌≈◌, ◌-Q◌, ◌*Q◌, neg_Q, whole}
use Rattle.fixdec.specs.Member.{IsMember}
use Rattle.fixdec.specs.Steps.{OnVal}
use Rattle.fixdec.specs.declared.step.Step.{Step}
use Rattle.lensmodel.specs.Paraxial.Trace.{ParaxialRay, AreIndices, signed_index, IsParaxialFrom, last_surface}
use Rattle.lensmodel.specs.Equations.Residual.{IsWithin}
use Rattle.lensmodel.specs.Setup.Values.{zero_decimal, eps}
use Rattle.lensmodel.specs.declared.paraxial.FirstOut.{FirstOut}
use Rattle.lensmodel.specs.declared.setup.Setup.{Setup}

abbrev pub one_decimal : Decimal
one_decimal = record { mant = pos 1; exp = pos 0 }

-- indices, the rays a and b that the values are made from, a third ray that is asked for, and the values; f is the focal
-- length on the object's side
pub record FirstChain : Type 0 where
  pub index : ℕ → Frac
  pub a : ParaxialRay
  pub b : ParaxialRay
  pub asked : ParaxialRay
  pub efl : Frac
  pub bfl : Frac
  pub ffl : Frac
  pub back : Frac
  pub front : Frac
  pub f : Frac
  pub enp : Frac

-- the values: bfl and back from the vertex of surface k, the one before the image; ffl, front and enp from that of surface 1
pub record HasValues (s : Setup) (c : FirstChain) : Type 0 where
  pub efl : IsWithin (eps s) (c.efl *Q c.a.u (last_surface s)) (whole (negsuc 0))
  pub bfl : IsWithin (eps s) (c.bfl *Q c.a.u (last_surface s)) (neg_Q (c.a.y (last_surface s)))
  pub ffl : IsWithin (eps s) (c.ffl *Q c.a.u (last_surface s)) (c.b.u (last_surface s))
  pub back : c.back ≈ c.bfl -Q c.efl
  pub front : c.front ≈ c.ffl -Q c.f
  pub f : c.f *Q signed_index s c.index (last_surface s) ≈ neg_Q (signed_index s c.index 0 *Q c.efl)
  -- where the stop isn't the object
  pub enp : 0 < s.lens.stop → IsWithin (eps s) (c.enp *Q c.a.y s.lens.stop) (c.b.y s.lens.stop)

-- ray a starts with height 1 and slope 0, ray b with height 0 and slope 1
pub record IsFirstChain (s : Setup) (y u : Decimal) (c : FirstChain) : Type 0 where
  pub index : AreIndices s c.index
  pub a : IsParaxialFrom s c.index one_decimal zero_decimal c.a
  pub b : IsParaxialFrom s c.index zero_decimal one_decimal c.b
  pub asked : IsParaxialFrom s c.index y u c.asked
  pub values : HasValues s c

-- a fraction lies in an interval that isn't lost
abbrev pub Holds : ℕ → Step Ends → Frac → Type 0
Holds scale answer v = OnVal answer (λ a. IsMember scale a v)

-- what is claimed of each chain; the trail's place j is surface j + 1, and the image's slope is the one that arrives
pub record HoldsFirst (s : Setup) (out : FirstOut) (c : FirstChain) : Type 0 where
  pub efl : Holds out.scale out.efl c.efl
  pub bfl : Holds out.scale out.bfl c.bfl
  pub ffl : Holds out.scale out.ffl c.ffl
  pub back : Holds out.scale out.back c.back
  pub front : Holds out.scale out.front c.front
  pub enp : 0 < s.lens.stop → Holds out.scale out.enp c.enp
  pub trail : (j : ℕ) (p : Step Ends × Step Ends) → slice_get out.trail.items j ≡ Some p
      → Holds out.scale p.0 (c.asked.y (suc j)) × Holds out.scale p.1 (c.asked.u (min (suc j) (last_surface s)))
