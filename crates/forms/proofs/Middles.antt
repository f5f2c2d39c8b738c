-- The middle of two numbers, rounded towards 0, and how far from it they are.
use Rattle.std.proofs.Common.{◌≡◌, ◌+◌, ◌≤◌, max, arith, ◌⊎◌, inl, inr}
use Rattle.std.specs.Prelude.{ℤ, pos, negsuc, ◌≤ℤ◌, ◌+ℤ◌, ◌-ℤ◌, int_div, unsigned_abs}
use Rattle.std.proofs.lemmas.Int.{ints}
use Rattle.fixdec.specs.Ends.{InCap}

-- c is half of s, rounded down, and not below 0
record IsHalf (s c : ℤ) : Type 0 where
  sign : pos 0 ≤ℤ c
  low : (c +ℤ c) ≤ℤ s
  high : s ≤ℤ (c +ℤ c +ℤ pos 1)

-- c is half of s, rounded up, and not above 0
record IsHalfUp (s c : ℤ) : Type 0 where
  sign : c ≤ℤ pos 0
  low : (c +ℤ c) ≤ℤ (s +ℤ pos 1)
  high : s ≤ℤ (c +ℤ c)

half : (s : ℤ) → IsHalf s (int_div s (pos 2)) ⊎ IsHalfUp s (int_div s (pos 2))
half (pos n) = inl record { sign = omega (arith, ints); low = omega (arith, ints); high = omega (arith, ints) }
half (negsuc n) = inr record { sign = omega (arith, ints); low = omega (arith, ints); high = omega (arith, ints) }

module _ (lo hi c : ℤ) (order : lo ≤ℤ hi) (low : InCap lo) (high : InCap hi) where
  pub reach_bound : c ≡ int_div (lo +ℤ hi) (pos 2) → unsigned_abs c + max (unsigned_abs (hi -ℤ c)) (unsigned_abs (c -ℤ lo)) ≤ 1_000_000_000_000_000_000
  reach_bound e = rw e (by (half (lo +ℤ hi)))
    where
      m : ℤ
      m = int_div (lo +ℤ hi) (pos 2)

      by : IsHalf (lo +ℤ hi) m ⊎ IsHalfUp (lo +ℤ hi) m → unsigned_abs m + max (unsigned_abs (hi -ℤ m)) (unsigned_abs (m -ℤ lo)) ≤ 1_000_000_000_000_000_000
      by (inl h) = let a = h.sign in let b = h.low in let d = h.high in omega (arith, ints)
      by (inr h) = let a = h.sign in let b = h.low in let d = h.high in omega (arith, ints)
