-- Decimals at a scale, rounded down and up.
use Rattle.std.specs.Prelude.{ℕ, suc, ℤ, pos, negsuc, ◌^◌, ◌*ℤ◌, ◌+ℤ◌, if◌then◌else◌}
use Rattle.std.specs.Ordering.{int_eq}
use Rattle.fixdec.specs.Decimal.{Decimal}
use Rattle.fixdec.specs.Ends.{Ends}
use Rattle.fixdec.specs.Interval.{ends}
use Rattle.fixdec.specs.Rounding.{floor, ceil}
use Rattle.fixdec.specs.declared.step.Step.{Step}

-- the greatest whole number that is at most m times ten to the power k
abbrev pub floor_times : ℤ → ℤ → ℤ
floor_times m (pos k) = m *ℤ pos (10 ^ k)
floor_times m (negsuc k) = floor m (pos (10 ^ suc k))

-- the least whole number that is at least m times ten to the power k
abbrev pub ceil_times : ℤ → ℤ → ℤ
ceil_times m (pos k) = m *ℤ pos (10 ^ k)
ceil_times m (negsuc k) = ceil m (pos (10 ^ suc k))

-- the value of a decimal in units of the scale, rounded down and up
unfoldable pub dec_floor : ℕ → Decimal → ℤ
dec_floor scale d = floor_times d.mant (d.exp +ℤ pos scale)

unfoldable pub dec_ceil : ℕ → Decimal → ℤ
dec_ceil scale d = ceil_times d.mant (d.exp +ℤ pos scale)

-- the span of a decimal at a scale
unfoldable pub dec_span : ℕ → Decimal → Step Ends
dec_span scale d = ends (dec_floor scale d) (dec_ceil scale d)

-- a decimal times ten to the power k
unfoldable pub dec_shifted : Decimal → ℤ → Decimal
dec_shifted d k = record { mant = d.mant; exp = if int_eq d.mant (pos 0) then pos 0 else d.exp +ℤ k }
