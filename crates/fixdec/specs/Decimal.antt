-- Decimals: a mantissa and a power of ten.
use Rattle.std.specs.Prelude.{ℕ, ℤ, pos, negsuc, suc, ◌≡◌, ◌<◌, ◌^◌, ◌≤ℤ◌, ◌-◌, unsigned_abs}
use Rattle.fixdec.specs.Frac.{Frac, whole, ◌*Q◌}

-- mant times ten to the power exp
pub record Decimal : Type 0 where
  pub mant : ℤ
  pub exp : ℤ

-- what the type of decimals keeps: at most 30 digits, an exponent from -108 to 78, and zero has exponent 0
pub record IsKept (d : Decimal) : Type 0 where
  pub digits : unsigned_abs d.mant < 10 ^ 30
  pub low : negsuc 107 ≤ℤ d.exp
  pub high : d.exp ≤ℤ pos 78
  pub zero : d.mant ≡ pos 0 → d.exp ≡ pos 0

-- one over ten to the power k
abbrev pub tenth_power : ℕ → Frac
tenth_power k = record { num = pos 1; less = 10 ^ k - 1 }

-- ten to the power k
abbrev pub ten_power : ℤ → Frac
ten_power (pos k) = whole (pos (10 ^ k))
ten_power (negsuc k) = tenth_power (suc k)

-- the value of a decimal
abbrev pub value : Decimal → Frac
value d = whole d.mant *Q ten_power d.exp
