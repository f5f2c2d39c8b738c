-- What zero leaves of a value: as a factor zero, and as a summand the value.
use Rattle.std.proofs.Common.{◌≡◌, ℕ, ◌^◌, ap, arith}
use Rattle.std.specs.Prelude.{ℤ, pos, ◌+ℤ◌, ◌*ℤ◌}
use Rattle.std.proofs.Math.Nat.{zero-div}
use Rattle.std.proofs.lemmas.Int.{ints}
use Rattle.fixdec.specs.Ends.{Ends, InCap}
use Rattle.fixdec.specs.Interval.{iv_plus, iv_times, unit}
use Rattle.fixdec.specs.IntervalOperations.{operations}
use Rattle.fixdec.specs.Operations.{Operations}
use Rattle.fixdec.specs.Rounding.{floor}
use Rattle.fixdec.specs.declared.step.Step.TheVariants.{Val}
use Rattle.enclose.specs.EndLaws.{ends_kept}

-- the ends of a number alone
abbrev pub single : ℤ → Ends
single z = record { lo = z; hi = z }

pub record LeavesZero {A : Type 0} (o : Operations A) (a : A) : Type 0 where
  pub times : o.times a (o.of_span (single (pos 0))) ≡ Val (o.of_span (single (pos 0)))
  pub plus : o.plus a (o.of_span (single (pos 0))) ≡ Val a

nothing : (z : ℤ) → z *ℤ pos 0 ≡ pos 0
nothing z = omega (arith, ints)

unchanged : (z : ℤ) → z +ℤ pos 0 ≡ z
unchanged z = omega (arith, ints)

floor_none : (scale : ℕ) → floor (pos 0) (unit scale) ≡ pos 0
floor_none scale = ap pos (zero-div (10 ^ scale))

iv_times-zero : (scale : ℕ) (a : Ends) → iv_times scale a (single (pos 0)) ≡ Val (single (pos 0))
unfolding iv_times
iv_times-zero scale a = rw (nothing a.lo, nothing a.hi, floor_none scale) (ends_kept (pos 0) (pos 0) (omega arith) (omega arith))

iv_plus-zero : (a : Ends) → InCap a.lo → InCap a.hi → iv_plus a (single (pos 0)) ≡ Val a
unfolding iv_plus
iv_plus-zero a p q = rw (unchanged a.lo, unchanged a.hi) (ends_kept a.lo a.hi p q)

-- an interval whose ends are within the cap
pub iv_leaves_zero : (scale : ℕ) (a : Ends) → InCap a.lo → InCap a.hi → LeavesZero (operations scale) a
unfolding operations
iv_leaves_zero scale a p q = record { times = iv_times-zero scale a; plus = iv_plus-zero a p q }

-- so a number within the cap
pub number_leaves_zero : (scale : ℕ) (z : ℤ) → InCap z → LeavesZero (operations scale) ((operations scale).of_span (single z))
unfolding operations
number_leaves_zero scale z h = iv_leaves_zero scale (single z) h h
