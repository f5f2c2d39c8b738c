-- The texts of raw numbers and of decimals.
use Rattle.std.specs.Prelude.{ℕ, zero, suc, ℤ, pos, negsuc, ◌+◌, ◌/◌, ◌%◌, ◌^◌, List, [], ◌∷◌, ◌++◌, codes, unsigned_abs}
use Rattle.std.specs.Fmt.{decimal, signed_decimal}
use Rattle.fixdec.specs.Decimal.{Decimal}

-- the last k digits of n
abbrev pub last_digits : ℕ → ℕ → List ℕ
last_digits zero n = []
last_digits (suc k) n = last_digits k (n / 10) ++ (48 + n % 10) ∷ []

-- - below 0
abbrev pub minus_sign : ℤ → List ℕ
minus_sign (pos n) = []
minus_sign (negsuc n) = codes "-"

-- a raw number: sign, whole part, point, and as many digits as the scale
unfoldable pub fix_text : ℕ → ℤ → List ℕ
fix_text scale raw = minus_sign raw ++ decimal (unsigned_abs raw / 10 ^ scale) ++ codes "." ++ last_digits scale (unsigned_abs raw)

-- e and the exponent, where it isn't 0
abbrev pub power_text : ℤ → List ℕ
power_text (pos zero) = []
power_text (pos (suc k)) = codes "e" ++ signed_decimal (pos (suc k))
power_text (negsuc k) = codes "e" ++ signed_decimal (negsuc k)

-- a decimal: the mantissa, then e and the exponent where it isn't 0
unfoldable pub dec_text : Decimal → List ℕ
dec_text d = signed_decimal d.mant ++ power_text d.exp
