-- The zone of a surface as it is prepared: a span of one number at scale 9, where there is one.
use Rattle.std.proofs.Common.{◌≡◌, ℕ, refl}
use Rattle.std.specs.Prelude.{ℤ, pos, negsuc, ◌*ℤ◌, Bool, true, false, List, [], ◌∷◌, map, Option, Some, None, is_none, int_lt, int_le, ◌&&◌, if◌then◌else◌}
use Rattle.fixdec.specs.Decimal.{Decimal}
use Rattle.fixdec.specs.Ends.{Ends}
use Rattle.fixdec.specs.Scaled.{dec_shifted}
use Rattle.fixdec.specs.Zone.{zone, zone_span, norm}
use Rattle.lensmodel.specs.Setup.Zones.{zone_if, zone_by, norm_by, coefficient}
use Rattle.lensmodel.specs.declared.surface.Surface.{Surface}
use Rattle.lensmodel.specs.declared.surface.SurfaceKind.{SurfaceKind}
use Rattle.lensmodel.specs.declared.surface.SurfaceKind.TheVariants.{Standard, EvenAsph}
use Rattle.sagform.specs.Setups.{IsZonedBy}

-- by the kind of a surface and its semi-diameter
abbrev pub zone_at : SurfaceKind → Option Decimal → Option Ends
zone_at Standard semi = None
zone_at EvenAsph semi = zone_if semi

-- the zone as a decimal
abbrev pub zone_decimal : Option Ends → Option Decimal
zone_decimal None = None
zone_decimal (Some z) = Some (record { mant = z.hi; exp = negsuc 8 })

-- D of a zone
abbrev pub norm_at : Option Ends → ℤ
norm_at None = pos 0
norm_at (Some z) = norm z.hi

-- a_i 10^(D i) for i from 1 to 8
abbrev pub scaled_at : ℤ → Surface → List Decimal
scaled_at d f = map (λ (i : ℕ). dec_shifted (coefficient f i) (d *ℤ pos i)) (1 ∷ 2 ∷ 3 ∷ 4 ∷ 5 ∷ 6 ∷ 7 ∷ 8 ∷ [])

chosen : (b : Bool) (z : Ends) → is_none (if b then Some z else None) ≡ false → (if b then Some z else None) ≡ Some z
chosen true z h = refl
chosen false z h = cc

span_there : (semi : Decimal) → is_none (zone_span semi) ≡ false → zone_span semi ≡ Some (record { lo = zone semi; hi = zone semi })
unfolding zone_span
span_there semi h = chosen (int_lt (pos 0) semi.mant && int_le (zone semi) (pos 1_000_000_000_000)) _ h

pub zone_is : (kind : SurfaceKind) (semi : Option Decimal) → IsZonedBy kind semi → zone_decimal (zone_at kind semi) ≡ zone_by kind semi
zone_is Standard semi h = refl
zone_is EvenAsph None h = absurd h
zone_is EvenAsph (Some d) h = rw (span_there d h) refl

pub norm_is : (kind : SurfaceKind) (semi : Option Decimal) → IsZonedBy kind semi → norm_at (zone_at kind semi) ≡ norm_by kind semi
norm_is Standard semi h = refl
norm_is EvenAsph None h = absurd h
norm_is EvenAsph (Some d) h = rw (span_there d h) refl
