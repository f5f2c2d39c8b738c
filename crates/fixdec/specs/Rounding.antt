-- Quotients of whole numbers, rounded down and up. The divisor isn't 0.
use Rattle.std.specs.Prelude.{zero, suc, ℤ, pos, negsuc, ◌≤ℤ◌}
use Rattle.std.specs.Int.{int_div_euclid}
use lib.IntN.{neg_ℤ}
use Rattle.fixdec.specs.Frac.{Frac, ◌≤Q◌, whole}

-- the greatest whole number that is at most n / d
abbrev pub floor : ℤ → ℤ → ℤ
floor n (pos d) = int_div_euclid n (pos d)
floor n (negsuc d) = int_div_euclid (neg_ℤ n) (pos (suc d))

-- the least whole number that is at least n / d
abbrev pub ceil : ℤ → ℤ → ℤ
ceil n d = neg_ℤ (floor (neg_ℤ n) d)

-- n / d as a fraction
abbrev pub ratio : ℤ → ℤ → Frac
ratio n (pos zero) = whole (pos 0)
ratio n (pos (suc d)) = record { num = n; less = d }
ratio n (negsuc d) = record { num = neg_ℤ n; less = d }

-- z is the greatest whole number that is at most x
pub record IsFloor (x : Frac) (z : ℤ) : Type 0 where
  pub below : whole z ≤Q x
  pub greatest : (y : ℤ) → whole y ≤Q x → y ≤ℤ z

-- z is the least whole number that is at least x
pub record IsCeil (x : Frac) (z : ℤ) : Type 0 where
  pub above : x ≤Q whole z
  pub least : (y : ℤ) → x ≤Q whole y → z ≤ℤ y
