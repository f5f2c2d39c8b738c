-- Worked setups and rays: small numbers that can be checked by hand.
use Rattle.std.specs.Prelude.{ℕ, ℤ, pos, negsuc, true, List, [], ◌∷◌, Some, None}
use Rattle.arrayvec.specs.ArrayVec.{ArrayVec}
use Rattle.fixdec.specs.Decimal.{Decimal}
use Rattle.lensmodel.specs.Setup.Values.{zero_decimal, plane}
use Rattle.lensmodel.specs.declared.glass.Glass.{Glass}
use Rattle.lensmodel.specs.declared.glass.Medium.{Medium}
use Rattle.lensmodel.specs.declared.glass.Medium.TheVariants.{Air, Of}
use Rattle.lensmodel.specs.declared.launch.Launch.{Launch}
use Rattle.lensmodel.specs.declared.launch.Launch.TheVariants.{Plain}
use Rattle.lensmodel.specs.declared.prescription.Prescription.{Prescription}
use Rattle.lensmodel.specs.declared.setup.Setup.{Setup}
use Rattle.lensmodel.specs.declared.surface.Surface.{Surface}
use Rattle.lensmodel.specs.declared.surface.SurfaceKind.TheVariants.{EvenAsph}

-- the decimal n
abbrev pub whole_decimal : ℤ → Decimal
whole_decimal n = record { mant = n; exp = pos 0 }

-- the name FLAT
abbrev pub flat_name : ArrayVec ℕ
flat_name = record { items = 70 ∷ 76 ∷ 65 ∷ 84 ∷ [] }

-- the glass FLAT of index 3/2 at every wavelength: by Schott's formula the square of its index is 2.25
abbrev pub flat_glass : Glass
flat_glass = record {
  name = flat_name;
  formula = 1;
  c0 = record { mant = pos 225; exp = negsuc 1 };
  c1 = zero_decimal;
  c2 = zero_decimal;
  c3 = zero_decimal;
  c4 = zero_decimal;
  c5 = zero_decimal;
  low = None;
  high = None;
}

-- an object at infinity, in air
abbrev pub far_object : Surface
far_object = record plane { thick = None }

-- the prescription of these surfaces, whose stop is surface 1
abbrev pub prescription_of : List Surface → Prescription
prescription_of surfaces = record { surfaces = record { items = surfaces }; stop = 1; waves = record { items = [] }; primary = 1 }

-- a setup of these surfaces and media at 0.5 micrometres, with the residual 10^-12 and no box
abbrev pub setup_of : List Surface → List Medium → Setup
setup_of surfaces media = record {
  lens = prescription_of surfaces;
  media = record { items = media };
  wave = record { mant = pos 5; exp = negsuc 0 };
  res = 12;
  width = record { mant = pos 1; exp = negsuc 2 };
  toler = None;
}

-- a plane in air, and the image 4 behind it
abbrev pub plane_setup : Setup
plane_setup = setup_of (far_object ∷ record plane { thick = Some (whole_decimal (pos 4)) } ∷ plane ∷ []) (Air ∷ Air ∷ [])

-- from the vertex, in the plane of y, with the slope 3/4
abbrev pub slanted_ray : Launch
slanted_ray = Plain zero_decimal zero_decimal zero_decimal record { mant = pos 75; exp = negsuc 1 }

-- a sphere of curvature 1/10 into glass FLAT, and the image 10 behind it
abbrev pub sphere_setup : Setup
sphere_setup =
    setup_of
    (far_object
    ∷ record plane { curv = record { mant = pos 1; exp = negsuc 0 }; thick = Some record { mant = pos 1; exp = pos 1 }; glass = Some flat_name }
    ∷ plane ∷ [])
    (Air ∷ Of flat_glass ∷ [])

-- along the axis
abbrev pub axis_ray : Launch
axis_ray = Plain zero_decimal zero_decimal zero_decimal zero_decimal

-- a plane between glass FLAT and air, and the image 4 behind it
abbrev pub glass_setup : Setup
glass_setup =
    setup_of (record far_object { glass = Some flat_name } ∷ record plane { thick = Some (whole_decimal (pos 4)) } ∷ plane ∷ [])
    (Of flat_glass ∷ Air ∷ [])

-- from the vertex, in the plane of y, with the slope 6/5
abbrev pub steep_ray : Launch
steep_ray = Plain zero_decimal zero_decimal zero_decimal record { mant = pos 12; exp = negsuc 0 }

-- a plane in air with a rim of radius 5, 4 before the next vertex
abbrev pub rim_plane : Surface
rim_plane = record plane { thick = Some (whole_decimal (pos 4)); semi = Some (whole_decimal (pos 5)); rim = true }

-- that plane, and the image
abbrev pub rim_setup : Setup
rim_setup = setup_of (far_object ∷ rim_plane ∷ plane ∷ []) (Air ∷ Air ∷ [])

-- along the axis, at the height y
abbrev pub level_ray : Decimal → Launch
level_ray y = Plain zero_decimal y zero_decimal zero_decimal

-- a parabola of curvature -1/10 that reflects, and the image in its focus, 5 before it
abbrev pub mirror_setup : Setup
mirror_setup =
    setup_of
    (far_object
    ∷ record plane {
      curv = record { mant = negsuc 0; exp = negsuc 0 };
      conic = whole_decimal (negsuc 0);
      thick = Some (whole_decimal (negsuc 4));
      mirror = true;
    }
    ∷ plane ∷ [])
    (Air ∷ Air ∷ [])

-- the heights 5.1 and 4.9, past the rim and within it
abbrev pub high_height : Decimal
high_height = record { mant = pos 51; exp = negsuc 0 }

abbrev pub low_height : Decimal
low_height = record { mant = pos 49; exp = negsuc 0 }

-- the bowl z = (x² + y²) / 10 in air, as an even asphere, and the image 4 behind its vertex
abbrev pub bowl_setup : Setup
bowl_setup =
    setup_of
    (far_object
    ∷ record plane {
      kind = EvenAsph;
      thick = Some (whole_decimal (pos 4));
      semi = Some (whole_decimal (pos 5));
      a1 = record { mant = pos 1; exp = negsuc 0 };
    }
    ∷ plane ∷ [])
    (Air ∷ Air ∷ [])

-- from the height 0.375, with the slope 5
abbrev pub bowl_ray : Launch
bowl_ray = Plain zero_decimal record { mant = pos 375; exp = negsuc 2 } zero_decimal (whole_decimal (pos 5))
