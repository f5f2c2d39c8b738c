-- What a shift answers, by the sign of its power.
use Rattle.std.proofs.Common.{ℕ, zero, suc, ◌≡◌, ◌^◌, refl, arith}
use Rattle.std.specs.Prelude.{ℤ, pos, negsuc, ◌*ℤ◌, ◌≤ℤ◌, ◌<ℤ◌, unsigned_abs}
use Rattle.std.proofs.lemmas.Int.{ints}
use Rattle.fixdec.specs.Ends.{Ends}
use Rattle.fixdec.specs.Interval.{ends, iv_shift}
use Rattle.fixdec.specs.Algebra.Order.{scale_le}
use Rattle.fixdec.specs.Rounding.{floor, ceil}

pub raised_le : (x y : ℤ) (n : ℕ) → x ≤ℤ y → (x *ℤ pos n) ≤ℤ (y *ℤ pos n)
raised_le x y zero h = omega (arith, ints)
raised_le x y (suc n) h = scale_le x y n h

pub shift_up : (a : Ends) (k : ℤ) (n : ℕ) → k <ℤ pos 0 → n ≡ unsigned_abs k → iv_shift a k ≡ ends (a.lo *ℤ pos (10 ^ n)) (a.hi *ℤ pos (10 ^ n))
unfolding iv_shift
shift_up a (pos k) n h e = absurd (omega (arith, ints))
shift_up a (negsuc k) n h e = rw e refl

pub shift_down : (a : Ends) (k : ℤ) → pos 0 ≤ℤ k → iv_shift a k ≡ ends (floor a.lo (pos (10 ^ unsigned_abs k))) (ceil a.hi (pos (10 ^ unsigned_abs k)))
unfolding iv_shift
shift_down a (pos k) h = refl
shift_down a (negsuc k) h = absurd (omega (arith, ints))
