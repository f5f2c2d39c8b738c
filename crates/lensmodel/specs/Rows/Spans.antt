-- Intervals of raw numbers that rows clip to, and what two intervals have in common. Cited by the crossing and the bending.
use Rattle.std.specs.Prelude.{ℤ, pos, negsuc, ◌+ℤ◌, Option, Some, None, int_le, if◌then◌else◌}
use Rattle.std.specs.Int.{int_min, int_max}
use Rattle.fixdec.specs.Ends.{Ends}
use Rattle.fixdec.specs.Rounding.{floor}
use Rattle.fixdec.specs.declared.step.Step.{Step}
use Rattle.fixdec.specs.declared.step.Step.TheVariants.{Val, Empty}

-- the numbers that aren't negative
abbrev pub positive : Ends
positive = record { lo = pos 0; hi = pos 1_000_000_000_000_000_000 }

-- those on the side to which rays travel
abbrev pub side_of : ℤ → Ends
side_of (pos k) = positive
side_of (negsuc k) = record { lo = negsuc 999_999_999_999_999_999; hi = pos 0 }

-- the point of one number
abbrev pub point : ℤ → Ends
point v = record { lo = v; hi = v }

-- the middle of an interval
abbrev pub middle : Ends → ℤ
middle a = floor (a.lo +ℤ a.hi) (pos 2)

-- the numbers from 0 to the greatest of an interval
abbrev pub up_to : Ends → Ends
up_to a = record { lo = pos 0; hi = a.hi }

-- the hull of a value that is there; the ends of 0 where it isn't
abbrev pub hull_or_zero : {A : Type 0} → (A → Ends) → Option A → Ends
hull_or_zero hull None = point (pos 0)
hull_or_zero hull (Some v) = hull v

-- the part that two intervals have in common; Empty where there is none
abbrev pub common : Ends → Ends → Step Ends
common a b =
    if int_le (int_max a.lo b.lo) (int_min a.hi b.hi) then Val (record { lo = int_max a.lo b.lo; hi = int_min a.hi b.hi }) else Empty
