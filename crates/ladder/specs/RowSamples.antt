-- Sample lenses of worked rows, for the tests.
use Rattle.std.specs.Prelude.{ℕ, pos, negsuc, true, List, [], ◌∷◌, Option, Some, None}
use Rattle.fixdec.specs.Decimal.{Decimal}
use Rattle.lensmodel.specs.Setup.Values.{plane, zero_decimal}
use Rattle.lensmodel.specs.declared.glass.Medium.{Medium}
use Rattle.lensmodel.specs.declared.glass.Medium.TheVariants.{Air, Of}
use Rattle.lensmodel.specs.declared.setup.Setup.{Setup}
use Rattle.lensmodel.specs.declared.surface.Surface.{Surface}
use Rattle.lensmodel.specs.declared.surface.SurfaceKind.TheVariants.{EvenAsph}
use Rattle.lensmodel.specs.declared.tolerance.Tol.{Tol}
use Rattle.lensmodel.specs.declared.tolerance.TolBox.{TolBox}
use Rattle.lensmodel.specs.declared.tolerance.TolKind.{TolKind}
use Rattle.lensmodel.specs.declared.tolerance.TolKind.TheVariants.{Curv, Thic, Indx}
use Rattle.ladder.specs.Samples.{decimal, flat, narrow, sample, sphere, rimmed}

-- a glass by Schott's formula, the square of whose index is the same at every wavelength
abbrev pub glass : Decimal → Medium
glass square = Of record {
  name = record { items = [] };
  formula = 1;
  c0 = square;
  c1 = zero_decimal;
  c2 = zero_decimal;
  c3 = zero_decimal;
  c4 = zero_decimal;
  c5 = zero_decimal;
  low = None;
  high = None;
}

-- the index 1.5
abbrev pub flat_glass : Medium
flat_glass = glass (decimal (pos 225) (negsuc 1))

-- a surface between two media
abbrev pub between : Surface → Medium → Medium → Setup
between surface before behind = record (sample surface narrow None) { media = record { items = before ∷ behind ∷ [] } }

-- the sphere as an even asphere, whose semi-diameter is 8
abbrev pub spherical : Surface
spherical = record sphere { kind = EvenAsph; semi = Some (decimal (pos 8) (pos 0)) }

-- a bowl of z = rho / 10, as an even asphere and as a parabola
abbrev pub bowl : Surface
bowl = record (flat (pos 4)) { kind = EvenAsph; semi = Some (decimal (pos 5) (pos 0)); a1 = decimal (pos 1) (negsuc 0) }

abbrev pub paraboloid : Surface
paraboloid = record (flat (pos 4)) { curv = decimal (pos 2) (negsuc 0); conic = decimal (negsuc 0) (pos 0) }

-- a parabola that reflects into its focus
abbrev pub mirror : Surface
mirror = record (flat (negsuc 4)) { curv = decimal (negsuc 0) (negsuc 0); conic = decimal (negsuc 0) (pos 0); mirror = true }

-- the plane with a rim, under the least residual
abbrev pub finest : Setup
finest = record (sample rimmed narrow None) { res = 14 }

-- a surface with a rim
abbrev pub element : Decimal → Decimal → Decimal → Surface
element curv thick semi = record plane { curv = curv; thick = Some thick; semi = Some semi; rim = true }

-- the triplet
abbrev pub elements : List Surface
elements =
    record plane { thick = None }
    ∷ element (decimal (pos 454) (negsuc 3)) (decimal (pos 326) (negsuc 1)) (decimal (pos 95) (negsuc 0))
    ∷ element (decimal (negsuc 22) (negsuc 3)) (decimal (pos 601) (negsuc 1)) (decimal (pos 95) (negsuc 0))
    ∷ element (decimal (negsuc 44) (negsuc 2)) (decimal (pos 1) (pos 0)) (decimal (pos 6) (pos 0))
    ∷ element (decimal (pos 493) (negsuc 3)) (decimal (pos 475) (negsuc 1)) (decimal (pos 6) (pos 0))
    ∷ element (decimal (pos 1255) (negsuc 4)) (decimal (pos 295) (negsuc 1)) (decimal (pos 9) (pos 0))
    ∷ element (decimal (negsuc 5435) (negsuc 4)) (decimal (pos 422) (negsuc 0)) (decimal (pos 9) (pos 0))
    ∷ plane ∷ []

abbrev pub crown : Medium
crown = glass (decimal (pos 26244) (negsuc 3))

abbrev pub flint : Medium
flint = glass (decimal (pos 26569) (negsuc 3))

abbrev pub glasses : List Medium
glasses = Air ∷ crown ∷ Air ∷ flint ∷ Air ∷ crown ∷ Air ∷ []

abbrev pub triplet : Option TolBox → Setup
triplet toler = record {
  lens = record { surfaces = record { items = elements }; stop = 3; waves = record { items = [] }; primary = 1 };
  media = record { items = glasses };
  wave = decimal (pos 5) (negsuc 0);
  res = 9;
  width = decimal (pos 5) (negsuc 0);
  toler = toler;
}

-- its box: on the curvatures, on the thicknesses and on the indices
abbrev pub tolerance : TolKind → Decimal → ℕ → Tol
tolerance kind delta j = record { kind = kind; surface = j; delta = delta }

abbrev pub on_curvature : ℕ → Tol
on_curvature j = tolerance Curv (decimal (pos 2) (negsuc 4)) j

abbrev pub on_thickness : ℕ → Tol
on_thickness j = tolerance Thic (decimal (pos 1) (negsuc 1)) j

abbrev pub on_index : ℕ → Tol
on_index j = tolerance Indx (decimal (pos 5) (negsuc 3)) j

abbrev pub tolerances : List Tol
tolerances =
    on_curvature 1 ∷ on_curvature 2 ∷ on_curvature 3 ∷ on_curvature 4 ∷ on_curvature 5 ∷ on_curvature 6
    ∷ on_thickness 1 ∷ on_thickness 2 ∷ on_thickness 3 ∷ on_thickness 4 ∷ on_thickness 5
    ∷ on_index 1 ∷ on_index 3 ∷ on_index 5 ∷ []

abbrev pub box : TolBox
box = record { list = record { items = tolerances } }
