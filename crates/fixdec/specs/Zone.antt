-- The zone of a semi-diameter, and the power of ten that it is brought to.
use Rattle.std.specs.Prelude.{◌≡◌, ℕ, zero, suc, ℤ, pos, ◌+◌, ◌*◌, ◌^◌, ◌≤ℤ◌, ◌<ℤ◌, ◌-ℤ◌, ◌*ℤ◌, ◌&&◌, nat_le, int_lt, int_le, unsigned_abs, neg_ℤ, Option, Some, None, if◌then◌else◌}
use Rattle.fixdec.specs.Decimal.{Decimal, ten_power}
use Rattle.fixdec.specs.Ends.{Ends}
use Rattle.fixdec.specs.Frac.{Frac, ◌≤Q◌, ◌*Q◌}
use Rattle.fixdec.specs.Scaled.{dec_ceil}

-- 1.1 times a decimal
abbrev pub times_1_1 : Decimal → Decimal
times_1_1 d = record { mant = pos 11 *ℤ d.mant; exp = d.exp -ℤ pos 1 }

abbrev pub eleven_tenths : Frac
eleven_tenths = record { num = pos 11; less = 9 }

-- 1.1 times the semi-diameter, rounded up to a multiple of 10^-9, in such units
unfoldable pub zone : Decimal → ℤ
zone semi = dec_ceil 9 (times_1_1 semi)

-- the zone, where the semi-diameter is above 0 and the zone is at most 1000
unfoldable pub zone_span : Decimal → Option Ends
zone_span semi = if int_lt (pos 0) semi.mant && int_le (zone semi) (pos 1_000_000_000_000) then Some (record { lo = zone semi; hi = zone semi }) else None

-- one number above 0 and at most 1000
pub record IsZone (a : Ends) : Type 0 where
  pub low : pos 0 <ℤ a.lo
  pub one : a.lo ≡ a.hi
  pub high : a.hi ≤ℤ pos 1_000_000_000_000

-- z units of 10^-9
abbrev pub nano : ℤ → Frac
nano z = record { num = z; less = 999_999_999 }

-- d is the least whole number from -6 to 6 with zone^2 at most 10^d
pub record IsNorm (z d : ℤ) : Type 0 where
  pub low : neg_ℤ (pos 6) ≤ℤ d
  pub high : d ≤ℤ pos 6
  pub bound : nano z *Q nano z ≤Q ten_power d
  pub least : (e : ℤ) → neg_ℤ (pos 6) ≤ℤ e → nano z *Q nano z ≤Q ten_power e → d ≤ℤ e

-- the first of k, k + 1, .. with z^2 at most ten to it, after at most n steps
unfoldable pub least_power : ℕ → ℕ → ℕ → ℕ
least_power z zero k = k
least_power z (suc n) k = if nat_le (z * z) (10 ^ k) then k else least_power z n (k + 1)

-- that whole number, for a zone in units of 10^-9
unfoldable pub norm : ℤ → ℤ
norm z = pos (least_power (unsigned_abs z) 12 12) -ℤ pos 18
