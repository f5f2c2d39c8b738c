-- Rounded quotients in order.
use Rattle.std.proofs.Common.{ℕ, zero, suc, ◌≡◌, ◌<◌, false, refl, arith, ◌⊎◌, inl, inr}
use Rattle.std.specs.Prelude.{ℤ, pos, negsuc, ◌≤ℤ◌, ◌*ℤ◌, ◌<ℤ◌, ◌≢◌}
use Rattle.std.proofs.lemmas.Int.{ints}
use lib.IntN.{neg_ℤ}
use Rattle.fixdec.specs.Ends.{Ends}
use Rattle.fixdec.specs.Interval.{unit, holds_zero, least_quotient, greatest_quotient}
use Rattle.fixdec.specs.Algebra.Order.{cancel_le}
use Rattle.fixdec.specs.Rounding.{floor, ceil}
use Rattle.fixdec.specs.Algebra.RoundingLaws.{floor_below, ceil_above}
use Rattle.enclose.specs.EndLaws.{without_zero, least_quotient_is, greatest_quotient_is}

pub floor_le_ceil : (x y : ℤ) (d : ℕ) → 0 < d → x ≤ℤ y → floor x (pos d) ≤ℤ ceil y (pos d)
floor_le_ceil x y zero g h = absurd (omega arith)
floor_le_ceil x y (suc d) g h = let f = floor_below x d in let c = ceil_above y d in cancel_le _ _ d (omega (arith, ints))

pub floor_le_ceil_of : (n d : ℤ) → d ≢ pos 0 → floor n d ≤ℤ ceil n d
floor_le_ceil_of n (pos zero) g = absurd (g refl)
floor_le_ceil_of n (pos (suc d)) g = floor_le_ceil n n (suc d) (omega arith) (omega (arith, ints))
floor_le_ceil_of n (negsuc d) g = floor_le_ceil (neg_ℤ n) (neg_ℤ n) (suc d) (omega arith) (omega (arith, ints))

-- a divisor without 0 has an end that isn't 0
pub quotients_in_order : (scale : ℕ) (a b : Ends) → holds_zero b ≡ false → least_quotient scale a b ≤ℤ greatest_quotient scale a b
quotients_in_order scale a b e = by (without_zero b e)
  where
    by : (pos 0 <ℤ b.lo) ⊎ (b.hi <ℤ pos 0) → least_quotient scale a b ≤ℤ greatest_quotient scale a b
    by (inl h) =
        let l = (least_quotient_is scale a b).lo_lo in
        let g = (greatest_quotient_is scale a b).lo_lo in
        let m = floor_le_ceil_of (a.lo *ℤ unit scale) b.lo (λ z. absurd (omega (arith, ints))) in
        omega (arith, ints)
    by (inr h) =
        let l = (least_quotient_is scale a b).lo_hi in
        let g = (greatest_quotient_is scale a b).lo_hi in
        let m = floor_le_ceil_of (a.lo *ℤ unit scale) b.hi (λ z. absurd (omega (arith, ints))) in
        omega (arith, ints)
