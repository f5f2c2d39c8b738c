-- Fractions and decimals compared, as answers that compute. Cited by the ranges, the cross checks and the whole faults.
use Rattle.std.specs.Prelude.{◌*ℤ◌, Bool, int_lt}
use Rattle.fixdec.specs.Decimal.{Decimal, value}
use Rattle.fixdec.specs.Frac.{Frac, den}

-- whether a fraction is below another
abbrev pub is_below : Frac → Frac → Bool
is_below x y = int_lt (x.num *ℤ den y) (y.num *ℤ den x)

abbrev pub is_below_decimal : Decimal → Decimal → Bool
is_below_decimal a b = is_below (value a) (value b)
