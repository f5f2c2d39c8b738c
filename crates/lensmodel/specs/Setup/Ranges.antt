-- The ranges of a job's numbers and of a box's tolerances. Cited by the readers of jobs and boxes and by well-formed setups.
use Rattle.std.specs.Prelude.{ℕ, pos, Bool, true, ◌&&◌, nat_le, nat_lt, int_le, int_lt, not, Option, Some, None}
use Rattle.fixdec.specs.Decimal.{Decimal}
use Rattle.lensmodel.specs.Setup.Comparison.{is_below_decimal}
use Rattle.lensmodel.specs.declared.job.Ask.{Ask}
use Rattle.lensmodel.specs.declared.job.Ask.TheVariants.{Ray, Aim, Fan, Spot, First, Seidel}
use Rattle.lensmodel.specs.declared.tolerance.TolKind.{TolKind}
use Rattle.lensmodel.specs.declared.tolerance.TolKind.TheVariants.{Curv, Thic, Indx}

-- above 0; and not below 0
abbrev pub is_positive : Decimal → Bool
is_positive d = int_lt (pos 0) d.mant

abbrev pub is_not_negative : Decimal → Bool
is_not_negative d = int_le (pos 0) d.mant

-- a wavelength is above 0, where one is given
abbrev pub is_wave : Option Decimal → Bool
is_wave None = true
is_wave (Some wave) = is_positive wave

-- a residual number is from 4 to 14
abbrev pub is_residual : ℕ → Bool
is_residual r = nat_le 4 r && nat_le r 14

-- a width bound is above 0 and at most 1000
abbrev pub is_width : Decimal → Bool
is_width width = is_positive width && not (is_below_decimal (record { mant = pos 1000; exp = pos 0 }) width)

-- a fan has from 1 to 1000 rays to a side, a grid from 1 to 60; a pupil's radius isn't below 0
abbrev pub is_fan : ℕ → Bool
is_fan n = nat_le 1 n && nat_le n 1000

abbrev pub is_grid : ℕ → Bool
is_grid n = nat_le 1 n && nat_le n 60

abbrev pub is_ask : Ask → Bool
is_ask (Ray x y p q) = true
is_ask (Aim p q px py z r) = is_not_negative r
is_ask (Fan p q n z r) = is_fan n && is_not_negative r
is_ask (Spot p q n z r) = is_grid n && is_not_negative r
is_ask (First y u) = true
is_ask (Seidel y u yb ub) = true

-- whether a tolerance of the kind can stand on surface j, by the number of the image: a curvature's on 1 to the image, a
-- thickness's on 1 to the surface before the image, an index's on 0 to the surface before the image
abbrev pub has_place : ℕ → TolKind → ℕ → Bool
has_place image Curv j = nat_le 1 j && nat_le j image
has_place image Thic j = nat_le 1 j && nat_lt j image
has_place image Indx j = nat_lt j image
