-- Zones, whole faults, media and signs of small lenses, worked out.
use Rattle.std.proofs.Common.{refl}
use Rattle.fixdec.specs.Frac.{whole, ◌*Q◌}
use Rattle.fixdec.specs.Scaled.{dec_ceil, dec_shifted}
use Rattle.fixdec.specs.Zone.{zone, zone_span, least_power, norm}
use Rattle.examples.specs.PrescriptionExamples.{WideZone, SmallZone, NoZones, Norms, Faults, CoefficientBound, FoldedLens, EqualMedia}
use Rattle.lensmodel.specs.Setup.WholeFaults.{whole_fault}

pub wide_zone : WideZone
unfolding zone_span zone norm least_power dec_ceil dec_shifted
wide_zone = (refl, refl, refl)

pub small_zone : SmallZone
unfolding zone_span zone norm least_power dec_ceil dec_shifted
small_zone = (refl, refl)

pub no_zones : NoZones
unfolding zone_span zone norm least_power dec_ceil dec_shifted
no_zones = refl

pub norms : Norms
unfolding norm least_power
norms = refl

pub faults : Faults
unfolding whole_fault zone_span zone norm least_power dec_ceil dec_shifted whole ◌*Q◌
faults = refl

pub coefficient_bound : CoefficientBound
unfolding whole_fault zone_span zone norm least_power dec_ceil dec_shifted whole ◌*Q◌
coefficient_bound = refl

pub folded : FoldedLens
folded = (refl, refl, refl)

pub equal : EqualMedia
equal = refl
