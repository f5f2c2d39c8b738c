-- Small lenses on which the definitions are worked out.
use Rattle.std.specs.Prelude.{ℤ, ℕ, pos, negsuc, true, [], ◌∷◌, Some}
use Rattle.fixdec.specs.Decimal.{Decimal}
use Rattle.fixdec.specs.Ends.{Ends}
use Rattle.lensmodel.specs.Setup.Values.{plane}
use Rattle.lensmodel.specs.declared.glass.Medium.TheVariants.{Air, Of}
use Rattle.lensmodel.specs.declared.setup.Setup.{Setup}
use Rattle.lensmodel.specs.declared.surface.Surface.{Surface}
use Rattle.lensmodel.specs.declared.surface.SurfaceKind.TheVariants.{EvenAsph}
use Rattle.lensmodel.specs.declared.tolerance.TolKind.TheVariants.{Indx}
use Rattle.examples.specs.Worked.{flat_glass, far_object, setup_of, plane_setup}

abbrev pub dec : ℤ → ℤ → Decimal
dec mant exp = record { mant = mant; exp = exp }

abbrev pub whole_dec : ℤ → Decimal
whole_dec mant = dec mant (pos 0)

-- tenths
abbrev pub tenths : ℤ → Decimal
tenths mant = dec mant (negsuc 0)

abbrev pub interval : ℤ → ℤ → Ends
interval lo hi = record { lo = lo; hi = hi }

-- a surface of some curvature and thickness
abbrev pub curved : Decimal → Decimal → Surface
curved curv thick = record plane { curv = curv; thick = Some thick }

-- a paraboloid of focal length 5 that turns rays back
abbrev pub mirror : Surface
mirror = record (curved (tenths (negsuc 0)) (whole_dec (negsuc 4))) { conic = whole_dec (negsuc 0); mirror = true }

-- an even asphere of some semi-diameter, with a coefficient a8
abbrev pub asphere : Decimal → Decimal → Surface
asphere semi a8 = record plane { kind = EvenAsph; semi = Some semi; a8 = a8 }

-- glass, a mirror in it, and the way back; the image is marked too, which has no effect
abbrev pub folded_lens : Setup
folded_lens = setup_of (far_object ∷ curved (tenths (pos 1)) (whole_dec (pos 4)) ∷ mirror ∷ plane ∷ mirror ∷ []) (Air ∷ Of flat_glass ∷ Air ∷ Air ∷ [])

-- the plane with a tolerance on the index behind surface j
abbrev pub toleranced : ℕ → Decimal → Setup
toleranced j delta = record plane_setup { toler = Some (record { list = record { items = record { kind = Indx; surface = j; delta = delta } ∷ [] } }) }
