-- Sample lenses, for the tests.
use Rattle.std.specs.Prelude.{ℤ, pos, negsuc, true, List, [], ◌∷◌, Option, Some, None}
use Rattle.fixdec.specs.Decimal.{Decimal}
use Rattle.lensmodel.specs.Setup.Values.{plane, zero_decimal}
use Rattle.lensmodel.specs.declared.glass.Glass.{Glass}
use Rattle.lensmodel.specs.declared.glass.Medium.{Medium}
use Rattle.lensmodel.specs.declared.glass.Medium.TheVariants.{Air, Of}
use Rattle.lensmodel.specs.declared.setup.Setup.{Setup}
use Rattle.lensmodel.specs.declared.surface.Surface.{Surface}
use Rattle.lensmodel.specs.declared.surface.SurfaceKind.TheVariants.{EvenAsph}
use Rattle.lensmodel.specs.declared.tolerance.TolBox.{TolBox}
use Rattle.lensmodel.specs.declared.tolerance.TolKind.TheVariants.{Indx}

abbrev pub decimal : ℤ → ℤ → Decimal
decimal mant exp = record { mant = mant; exp = exp }

-- surfaces and the media behind them; the wavelength is 0.5 and the residual 10^-12
abbrev pub setup : List Surface → List Medium → Option TolBox → Setup
setup surfaces media toler = record {
  lens = record { surfaces = record { items = surfaces }; stop = 1; waves = record { items = [] }; primary = 1 };
  media = record { items = media };
  wave = decimal (pos 5) (negsuc 0);
  res = 12;
  width = decimal (pos 1) (negsuc 2);
  toler = toler;
}

-- an object at infinity; and a plane, with its distance to the next vertex
abbrev pub object : Surface
object = record plane { thick = None }

abbrev pub flat : ℤ → Surface
flat thick = record plane { thick = Some (decimal thick (pos 0)) }

-- ---- one surface in air
abbrev pub alone : Surface → Setup
alone f = setup (object ∷ f ∷ flat (pos 0) ∷ []) (Air ∷ Air ∷ []) None

-- a sphere of radius 10 with a second coefficient of 10^-5, whose semi-diameter is 8
abbrev pub asphere : Surface
asphere = record (flat (pos 10)) { kind = EvenAsph; curv = decimal (pos 1) (negsuc 0); semi = Some (decimal (pos 8) (pos 0)); a2 = decimal (pos 1) (negsuc 4) }

-- a parabola that reflects into its focus
abbrev pub mirror : Surface
mirror = record (flat (negsuc 4)) { curv = decimal (negsuc 0) (negsuc 0); conic = decimal (negsuc 0) (pos 0); mirror = true }

-- ---- a plate of glass with a tolerance of 0.01 on its index of 1.5
abbrev pub glass : Glass
glass = record {
  name = record { items = [] };
  formula = 1;
  c0 = decimal (pos 225) (negsuc 1);
  c1 = zero_decimal;
  c2 = zero_decimal;
  c3 = zero_decimal;
  c4 = zero_decimal;
  c5 = zero_decimal;
  low = None;
  high = None;
}

abbrev pub box : TolBox
box = record { list = record { items = record { kind = Indx; surface = 1; delta = decimal (pos 1) (negsuc 1) } ∷ [] } }

abbrev pub plate : Setup
plate = setup (object ∷ flat (pos 4) ∷ flat (pos 1) ∷ flat (pos 0) ∷ []) (Air ∷ Of glass ∷ Air ∷ []) (Some box)
