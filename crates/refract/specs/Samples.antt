-- Sample lenses, for the tests.
use Rattle.std.specs.Prelude.{ℕ, ℤ, pos, negsuc, true, List, [], ◌∷◌, Option, Some, None}
use Rattle.fixdec.specs.Decimal.{Decimal}
use Rattle.lensmodel.specs.Setup.Values.{plane, zero_decimal}
use Rattle.lensmodel.specs.declared.glass.Medium.{Medium}
use Rattle.lensmodel.specs.declared.glass.Medium.TheVariants.{Air, Of}
use Rattle.lensmodel.specs.declared.setup.Setup.{Setup}
use Rattle.lensmodel.specs.declared.surface.Surface.{Surface}
use Rattle.lensmodel.specs.declared.tolerance.TolBox.{TolBox}
use Rattle.lensmodel.specs.declared.tolerance.TolKind.TheVariants.{Curv, Indx}

abbrev pub decimal : ℤ → ℤ → Decimal
decimal mant exp = record { mant = mant; exp = exp }

-- a glass by Schott's formula, the square of whose index is the same at every wavelength
abbrev pub glass : Decimal → Medium
glass square = Of record {
  name = record { items = [] };
  formula = 1;
  c0 = square;
  c1 = zero_decimal;
  c2 = zero_decimal;
  c3 = zero_decimal;
  c4 = zero_decimal;
  c5 = zero_decimal;
  low = None;
  high = None;
}

-- the index 1.5, and the glass in the middle of the triplet
abbrev pub flat_glass : Medium
flat_glass = glass (decimal (pos 225) (negsuc 1))

abbrev pub heavy_glass : Medium
heavy_glass = glass (decimal (pos 26569) (negsuc 3))

-- an object at infinity
abbrev pub object : Surface
object = record plane { thick = None }

-- these surfaces and media; the wavelength is 0.5
abbrev pub sample : List Surface → List Medium → ℕ → Option TolBox → Setup
sample surfaces media res toler = record {
  lens = record { surfaces = record { items = surfaces }; stop = 1; waves = record { items = [] }; primary = 1 };
  media = record { items = media };
  wave = decimal (pos 5) (negsuc 0);
  res = res;
  width = decimal (pos 1) (negsuc 2);
  toler = toler;
}

abbrev pub single : Surface → Medium → Medium → ℕ → Option TolBox → Setup
single surface before behind res toler = sample (object ∷ surface ∷ plane ∷ []) (before ∷ behind ∷ []) res toler

abbrev pub folded : Surface → Surface → Setup
folded first second = sample (object ∷ first ∷ second ∷ plane ∷ []) (Air ∷ Air ∷ Air ∷ []) 12 None

-- a plane, with the image 4 behind it
abbrev pub flat : Surface
flat = record plane { thick = Some (decimal (pos 4) (pos 0)) }

-- a sphere of radius 10
abbrev pub sphere : Surface
sphere = record plane { curv = decimal (pos 1) (negsuc 0); thick = Some (decimal (pos 10) (pos 0)) }

-- the fourth surface of the triplet
abbrev pub back : Surface
back = record plane { curv = decimal (pos 493) (negsuc 3); thick = Some (decimal (pos 475) (negsuc 1)) }

-- a parabola that reflects, and a sphere that reflects what comes from it
abbrev pub parabola : Surface
parabola = record plane { curv = decimal (negsuc 0) (negsuc 0); conic = decimal (negsuc 0) (pos 0); thick = Some (decimal (negsuc 4) (pos 0)); mirror = true }

abbrev pub second : Surface
second = record plane { curv = decimal (negsuc 24) (negsuc 1); thick = Some (decimal (pos 6) (pos 0)); mirror = true }

-- tolerances on the curvature of surface 1 and on the index behind it
abbrev pub box : TolBox
box = record {
  list = record {
    items = record { kind = Curv; surface = 1; delta = decimal (pos 1) (negsuc 3) }
        ∷ record { kind = Indx; surface = 1; delta = decimal (pos 1) (negsuc 2) } ∷ [];
  };
}
