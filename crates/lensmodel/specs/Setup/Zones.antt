-- The zone of an even asphere, the power of ten that it is brought to, and the coefficients brought to it. Cited by the
-- preparation of a surface, by the whole faults of a lens and by the printed lens.
use Rattle.std.specs.Prelude.{ℕ, ◌-◌, ℤ, pos, negsuc, ◌*ℤ◌, List, [], ◌∷◌, map, slice_index_or, Option, Some, None}
use Rattle.fixdec.specs.Decimal.{Decimal}
use Rattle.fixdec.specs.Ends.{Ends}
use Rattle.fixdec.specs.Scaled.{dec_shifted}
use Rattle.fixdec.specs.Zone.{zone, zone_span, norm}
use Rattle.lensmodel.specs.Setup.Values.{zero_decimal, coefficients_of}
use Rattle.lensmodel.specs.declared.surface.Surface.{Surface}
use Rattle.lensmodel.specs.declared.surface.SurfaceKind.{SurfaceKind}
use Rattle.lensmodel.specs.declared.surface.SurfaceKind.TheVariants.{Standard, EvenAsph}

-- the zone of a semi-diameter at scale 9: none where it is absent or isn't above 0, or where the zone is above 1000
abbrev pub zone_if : Option Decimal → Option Ends
zone_if None = None
zone_if (Some semi) = zone_span semi

abbrev pub surface_zone : Surface → Option Ends
surface_zone f = zone_if f.semi

-- the zone as a decimal, which an even asphere with a semi-diameter has
abbrev pub zone_by : SurfaceKind → Option Decimal → Option Decimal
zone_by EvenAsph (Some semi) = Some (record { mant = zone semi; exp = negsuc 8 })
zone_by kind semi = None

abbrev pub zone_of : Surface → Option Decimal
zone_of f = zone_by f.kind f.semi

-- D: the least whole number from -6 to 6 with zone^2 at most 10^D; 0 without a zone
abbrev pub norm_by : SurfaceKind → Option Decimal → ℤ
norm_by EvenAsph (Some semi) = norm (zone semi)
norm_by kind semi = pos 0

abbrev pub norm_of : Surface → ℤ
norm_of f = norm_by f.kind f.semi

-- the written coefficients a1 to a8; a standard surface has eight zeros, whatever its fields hold
abbrev pub written_coefficients : SurfaceKind → Surface → List Decimal
written_coefficients Standard f = zero_decimal ∷ zero_decimal ∷ zero_decimal ∷ zero_decimal ∷ zero_decimal ∷ zero_decimal ∷ zero_decimal ∷ zero_decimal ∷ []
written_coefficients EvenAsph f = coefficients_of EvenAsph f

-- the written coefficient a_i, i being from 1 to 8
abbrev pub coefficient : Surface → ℕ → Decimal
coefficient f i = slice_index_or (written_coefficients f.kind f) (i - 1) zero_decimal

-- b_i = a_i 10^(D i)
abbrev pub scaled_coefficient : Surface → ℕ → Decimal
scaled_coefficient f i = dec_shifted (coefficient f i) (norm_of f *ℤ pos i)

-- b1 to b8
abbrev pub scaled_coefficients : Surface → List Decimal
scaled_coefficients f = map (scaled_coefficient f) (1 ∷ 2 ∷ 3 ∷ 4 ∷ 5 ∷ 6 ∷ 7 ∷ 8 ∷ [])
