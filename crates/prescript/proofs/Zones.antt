-- The power of ten of a zone.
use Rattle.std.proofs.Common.{◌≡◌, ap}
use Rattle.std.specs.Prelude.{pos, Bool, true, false, Option, Some, None, int_lt, int_le, ◌&&◌, if◌then◌else◌}
use Rattle.fixdec.specs.Decimal.{Decimal}
use Rattle.fixdec.specs.Ends.{Ends}
use Rattle.fixdec.specs.Zone.{zone, zone_span, norm}
use Rattle.lensmodel.specs.Setup.Zones.{zone_if, norm_by}
use Rattle.lensmodel.specs.declared.surface.SurfaceKind.{SurfaceKind}
use Rattle.lensmodel.specs.declared.surface.SurfaceKind.TheVariants.{Standard, EvenAsph}

chosen : (b : Bool) (y z : Ends) → (if b then Some y else None) ≡ Some z → y ≡ z
chosen true y z h = cc
chosen false y z h = cc

pub zone_is : (semi : Decimal) (z : Ends) → zone_span semi ≡ Some z → zone semi ≡ z.hi
unfolding zone_span
zone_is semi z h =
    ap (λ (a : Ends). a.hi) (chosen (int_lt (pos 0) semi.mant && int_le (zone semi) (pos 1_000_000_000_000)) (record { lo = zone semi; hi = zone semi }) z h)

-- D of an even asphere is that of its zone
pub norm_by_zone : (kind : SurfaceKind) (semi : Option Decimal) (z : Ends) → kind ≡ EvenAsph → zone_if semi ≡ Some z → norm z.hi ≡ norm_by kind semi
norm_by_zone Standard semi z e h = cc
norm_by_zone EvenAsph None z e h = cc
norm_by_zone EvenAsph (Some d) z e h = let hi = zone_is d z h in ap norm (cc)
