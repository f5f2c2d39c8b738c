-- Sample lenses, for the tests.
use Rattle.std.specs.Prelude.{ℕ, pos, negsuc, List, [], ◌∷◌, Some, None}
use Rattle.lensmodel.specs.Setup.Values.{plane}
use Rattle.lensmodel.specs.declared.glass.Medium.{Medium}
use Rattle.lensmodel.specs.declared.glass.Medium.TheVariants.{Air}
use Rattle.lensmodel.specs.declared.setup.Setup.{Setup}
use Rattle.lensmodel.specs.declared.surface.Surface.{Surface}
use Rattle.refract.specs.Samples.{decimal, object, sample}

-- these surfaces and media, with this stop
abbrev pub stopped : ℕ → List Surface → List Medium → Setup
stopped stop surfaces media = record (sample surfaces media 12 None) {
  lens = record { surfaces = record { items = surfaces }; stop = stop; waves = record { items = [] }; primary = 1 };
}

-- two surfaces in air with a medium between them, and the stop at the second
abbrev pub pair : Surface → Surface → Medium → Setup
pair first second medium = stopped 2 (object ∷ first ∷ second ∷ plane ∷ []) (Air ∷ medium ∷ Air ∷ [])

-- a surface in air, with the stop at the object
abbrev pub alone : Surface → Setup
alone surface = stopped 0 (object ∷ surface ∷ plane ∷ []) (Air ∷ Air ∷ [])

-- the faces of a lens of glass, 3 thick
abbrev pub front : Surface
front = record plane { curv = decimal (pos 1) (negsuc 0); thick = Some (decimal (pos 3) (pos 0)) }

abbrev pub back : Surface
back = record plane { curv = decimal (negsuc 4) (negsuc 1); thick = Some (decimal (pos 12) (pos 0)) }
