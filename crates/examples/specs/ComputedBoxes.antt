-- Rows of worked setups with a box, in linear arithmetic, and indices of worked glasses, number for number.
use Rattle.std.specs.Prelude.{◌≡◌, ℕ, pos, negsuc, [], ◌∷◌, List, Some}
use Rattle.fixdec.specs.Decimal.{Decimal}
use Rattle.fixdec.specs.IntervalOperations.{operations}
use Rattle.fixdec.specs.declared.step.Step.TheVariants.{Val}
use Rattle.examples.specs.ComputedRows.{Gives, place, headed, about, ones, tenths}
use Rattle.lensmodel.specs.Rows.Constants.{residual_units}
use Rattle.lensmodel.specs.Rows.Preparation.{medium_row}
use Rattle.lensmodel.specs.Setup.Values.{plane}
use Rattle.examples.specs.Worked.{flat_name, flat_glass, far_object, setup_of, plane_setup, slanted_ray}
use Rattle.examples.specs.WorkedRow.{span}
use Rattle.lensmodel.specs.declared.glass.Glass.{Glass}
use Rattle.lensmodel.specs.declared.glass.Medium.TheVariants.{Air, Of}
use Rattle.lensmodel.specs.declared.launch.Launch.{Launch}
use Rattle.lensmodel.specs.declared.row.Place.{Place}
use Rattle.lensmodel.specs.declared.row.Word.{Word}
use Rattle.lensmodel.specs.declared.row.Word.TheVariants.{Passes}
use Rattle.lensmodel.specs.declared.setup.Setup.{Setup}
use Rattle.lensmodel.specs.declared.tolerance.Tol.{Tol}
use Rattle.lensmodel.specs.declared.tolerance.TolKind.TheVariants.{Thic, Indx}

-- a setup with one tolerance and another bound on widths
abbrev pub boxed : Tol → Decimal → Setup → Setup
boxed t width s = record s { width = width; toler = Some (record { list = record { items = t ∷ [] } }) }

-- a plate of glass FLAT, 4 thick, and the image 1 behind it
abbrev pub plate_setup : Setup
plate_setup =
    setup_of (far_object ∷ record plane { thick = Some (ones 4); glass = Some flat_name } ∷ record plane { thick = Some (ones 1) } ∷ plane ∷ [])
    (Air ∷ Of flat_glass ∷ Air ∷ [])

-- the slanted ray, where the thickness 4 may be off by a tenth: y at the image spans 2.925 to 3.075
abbrev pub ThicknessBox : Type 0
ThicknessBox =
    Gives 6 (boxed (record { kind = Thic; surface = 1; delta = tenths 1 }) (ones 2) plane_setup) slanted_ray Passes
    (headed (place (about 2) (about 3) (about 3) (about 1) (about 5)) (about 1) (span (pos 599997) (pos 600003)) (span (pos 799998) (pos 800002))
    ∷ place (span (pos 8544152) (pos 9455848)) (about 18) (span (pos 2924964) (pos 3075036)) (about 1) (span (pos 4874976) (pos 5125024))
    ∷ [])

-- the slanted ray through the plate, whose index may be off by a hundredth: behind it the symbol has left M
abbrev pub PlateBox : Type 0
PlateBox =
    Gives 6 (boxed (record { kind = Indx; surface = 1; delta = record { mant = pos 1; exp = negsuc 1 } }) (ones 1) plate_setup) slanted_ray Passes
    (headed (place (about 2) (about 3) (about 3) (about 1) (about 5)) (about 4) (span (pos 397307) (pos 402693)) (span (pos 915268) (pos 917760))
    ∷ headed (place (span (pos 2997971) (pos 3097273)) (about 30) (span (pos 1731582) (pos 1759906)) (about 1) (span (pos 6510517) (pos 6582571))) (about 10) (span (pos 599921) (pos 600079)) (span (pos 799391) (pos 800601))
    ∷ place (span (pos 6154515) (pos 6302991)) (about 47) (span (pos 2480919) (pos 2510575)) (about 1) (span (pos 7759570) (pos 7833530))
    ∷ [])

-- ---- indices, at scale 12 and with the residual 10^-12
-- the glass N-BK7, by Sellmeier's formula
abbrev pub crown_glass : Glass
crown_glass = record flat_glass {
  formula = 2;
  c0 = record { mant = pos 103961212; exp = negsuc 7 };
  c1 = record { mant = pos 600069867; exp = negsuc 10 };
  c2 = record { mant = pos 231792344; exp = negsuc 8 };
  c3 = record { mant = pos 200179144; exp = negsuc 9 };
  c4 = record { mant = pos 101046945; exp = negsuc 7 };
  c5 = record { mant = pos 103560653; exp = negsuc 5 };
}

abbrev pub FlatIndex : Type 0
FlatIndex = medium_row (operations 12) 12 (Of flat_glass) (tenths 5) (residual_units 12 12) ≡ Val (span (pos 1499999999999) (pos 1500000000001))

-- at the yellow line of helium, 0.5875618 micrometres
abbrev pub CrownIndex : Type 0
CrownIndex =
    medium_row (operations 12) 12 (Of crown_glass) (record { mant = pos 5875618; exp = negsuc 6 }) (residual_units 12 12)
    ≡ Val (span (pos 1516800034498) (pos 1516800034504))

-- a glass with all of Schott's coefficients
abbrev pub heavy_glass : Glass
heavy_glass = record flat_glass {
  c1 = record { mant = pos 1; exp = negsuc 1 };
  c2 = record { mant = pos 2; exp = negsuc 1 };
  c3 = record { mant = pos 1; exp = negsuc 2 };
  c4 = record { mant = negsuc 1; exp = negsuc 3 };
  c5 = record { mant = pos 3; exp = negsuc 4 };
}

abbrev pub HeavyIndex : Type 0
HeavyIndex = medium_row (operations 12) 12 (Of heavy_glass) (tenths 5) (residual_units 12 12) ≡ Val (span (pos 1530810242975) (pos 1530810242977))
