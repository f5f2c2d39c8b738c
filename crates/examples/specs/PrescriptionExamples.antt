-- Prescriptions and setups on which zones, whole faults, media and signs are worked out.
use Rattle.std.specs.Prelude.{◌≡◌, ℕ, pos, negsuc, true, false, List, [], ◌∷◌, map, Some, None}
use Rattle.fixdec.specs.Decimal.{Decimal}
use Rattle.fixdec.specs.Zone.{norm}
use Rattle.lensmodel.specs.Setup.Media.{equal_media}
use Rattle.examples.specs.SmallLenses.{dec, whole_dec, interval, mirror, asphere, folded_lens, toleranced}
use Rattle.examples.specs.Worked.{far_object, plane_setup}
use Rattle.lensmodel.specs.Setup.Values.{plane, zero_decimal, owner, travel}
use Rattle.lensmodel.specs.Setup.WholeFaults.{whole_fault}
use Rattle.lensmodel.specs.Setup.Zones.{surface_zone, norm_of, scaled_coefficient}
use Rattle.lensmodel.specs.declared.fault.ZmxFault.TheVariants.{TooFewSurfaces, StopCount, MirrorAtObject, InnerInfinity, NoZone, Coefficient}
use Rattle.lensmodel.specs.declared.prescription.Prescription.{Prescription}
use Rattle.lensmodel.specs.declared.surface.Surface.{Surface}

-- ---- zones
-- the zone of a semi-diameter of 12 is 13.2, its square is at most 10^3, and a8 = 10^-20 becomes 10^4
abbrev pub wide : Surface
wide = asphere (whole_dec (pos 12)) (dec (pos 1) (negsuc 19))

abbrev pub WideZone : Type 0
WideZone =
    (surface_zone wide ≡ Some (interval (pos 13200000000) (pos 13200000000))) × (norm_of wide ≡ pos 3)
    × (scaled_coefficient wide 8 ≡ dec (pos 1) (pos 4))

-- a third of a unit of 10^-9 is rounded up to one unit
abbrev pub small : Surface
small = asphere (dec (pos 3) (negsuc 10)) zero_decimal

abbrev pub SmallZone : Type 0
SmallZone = (surface_zone small ≡ Some (interval (pos 1) (pos 1))) × (norm_of small ≡ negsuc 5)

-- semi-diameters of 0 and past 1000/1.1 have no zone, and a plane without one has none
abbrev pub NoZones : Type 0
NoZones = map surface_zone (asphere zero_decimal zero_decimal ∷ asphere (whole_dec (pos 910)) zero_decimal ∷ plane ∷ []) ≡ None ∷ None ∷ None ∷ []

-- one unit, exactly 10, one unit more, 1000
abbrev pub Norms : Type 0
Norms = map norm (pos 1 ∷ pos 10000000000 ∷ pos 10000000001 ∷ pos 1000000000000 ∷ []) ≡ negsuc 5 ∷ pos 2 ∷ pos 3 ∷ pos 6 ∷ []

-- ---- whole faults
abbrev pub lens_of : List Surface → ℕ → Prescription
lens_of surfaces stop = record { surfaces = record { items = surfaces }; stop = stop; waves = record { items = [] }; primary = 1 }

abbrev pub with_asphere : Decimal → Decimal → Prescription
with_asphere semi a8 = lens_of (far_object ∷ asphere semi a8 ∷ plane ∷ []) 1

-- each fault before those behind it: the object may be infinitely far, and so may what follows the image
abbrev pub Faults : Type 0
Faults =
    map whole_fault (plane_setup.lens ∷ lens_of (mirror ∷ plane ∷ []) 2 ∷ lens_of (mirror ∷ far_object ∷ plane ∷ []) 3 ∷ lens_of (mirror ∷ far_object ∷ plane ∷ []) 0
    ∷ lens_of (far_object ∷ plane ∷ far_object ∷ far_object ∷ []) 1 ∷ with_asphere zero_decimal zero_decimal ∷ lens_of (asphere zero_decimal zero_decimal ∷ plane ∷ far_object ∷ []) 2 ∷ [])
    ≡ None ∷ Some TooFewSurfaces ∷ Some StopCount ∷ Some MirrorAtObject ∷ Some (InnerInfinity 2) ∷ Some (NoZone 1) ∷ None ∷ []

-- a coefficient of exactly 10^9 is accepted, and one of -1.01 times that isn't
abbrev pub CoefficientBound : Type 0
CoefficientBound =
    map whole_fault (with_asphere (whole_dec (pos 12)) (dec (pos 1) (negsuc 14)) ∷ with_asphere (whole_dec (pos 12)) (dec (negsuc 100) (negsuc 16)) ∷ [])
    ≡ None ∷ Some (Coefficient 1 8) ∷ []

-- ---- signs, owners of media, equal media
-- behind the mirror rays travel back in the glass; a mirror lies between no equal media
abbrev pub FoldedLens : Type 0
FoldedLens =
    (map (travel folded_lens) (0 ∷ 1 ∷ 2 ∷ 3 ∷ 4 ∷ []) ≡ pos 1 ∷ pos 1 ∷ negsuc 0 ∷ negsuc 0 ∷ negsuc 0 ∷ [])
    × (map (owner folded_lens) (0 ∷ 1 ∷ 2 ∷ 3 ∷ 4 ∷ []) ≡ 0 ∷ 1 ∷ 1 ∷ 3 ∷ 4 ∷ [])
    × (map (equal_media folded_lens) (0 ∷ 1 ∷ 2 ∷ []) ≡ false ∷ false ∷ false ∷ [])

-- a tolerance on the index of either medium makes them different, and one on another surface doesn't
abbrev pub EqualMedia : Type 0
EqualMedia =
    map (λ s. equal_media s 0) (plane_setup ∷ toleranced 0 zero_decimal ∷ toleranced 1 zero_decimal ∷ toleranced 2 zero_decimal ∷ [])
    ≡ true ∷ false ∷ false ∷ true ∷ []
