-- Interval arithmetic: what each operation on intervals answers, in raw whole numbers. At a scale the raw number v
-- stands for v / 10^scale. An answer is Lost Range exactly where an end of the stated result passes the cap in size,
-- unless another answer is stated first.
use Rattle.std.specs.Prelude.{ℕ, suc, ◌*◌, ◌^◌, min, max, Bool, ◌&&◌, if◌then◌else◌, ℤ, pos, negsuc, ◌+ℤ◌, ◌-ℤ◌, ◌*ℤ◌, int_le, int_lt, nat_le, unsigned_abs}
use Rattle.std.specs.Int.{int_min, int_max}
use Rattle.fixdec.specs.Ends.{Ends}
use Rattle.fixdec.specs.Root.{root, root_up_by}
use Rattle.fixdec.specs.Rounding.{floor, ceil}
use Rattle.fixdec.specs.declared.step.Step.{Step}
use Rattle.fixdec.specs.declared.step.Step.TheVariants.{Val, Empty, Lost}
use Rattle.fixdec.specs.declared.step.Why.TheVariants.{Zero, Range}

-- the number of units in one
abbrev pub unit : ℕ → ℤ
unit scale = pos (10 ^ scale)

-- whether the size of z is at most the cap
abbrev pub fits_cap : ℤ → Bool
fits_cap z = nat_le (unsigned_abs z) 1_000_000_000_000_000_000

-- the interval of these two ends, or Lost Range where one of them passes the cap
unfoldable pub ends : ℤ → ℤ → Step Ends
ends lo hi = if fits_cap lo && fits_cap hi then Val (record { lo = lo; hi = hi }) else Lost Range

-- the least and the greatest of four numbers
abbrev pub least : ℤ → ℤ → ℤ → ℤ → ℤ
least p q r s = int_min (int_min p q) (int_min r s)

abbrev pub greatest : ℤ → ℤ → ℤ → ℤ → ℤ
greatest p q r s = int_max (int_max p q) (int_max r s)

-- the sum
unfoldable pub iv_plus : Ends → Ends → Step Ends
iv_plus a b = ends (a.lo +ℤ b.lo) (a.hi +ℤ b.hi)

-- the difference
unfoldable pub iv_minus : Ends → Ends → Step Ends
iv_minus a b = ends (a.lo -ℤ b.hi) (a.hi -ℤ b.lo)

-- the least and the greatest of the four products of ends
abbrev pub least_product : Ends → Ends → ℤ
least_product a b = least (a.lo *ℤ b.lo) (a.lo *ℤ b.hi) (a.hi *ℤ b.lo) (a.hi *ℤ b.hi)

abbrev pub greatest_product : Ends → Ends → ℤ
greatest_product a b = greatest (a.lo *ℤ b.lo) (a.lo *ℤ b.hi) (a.hi *ℤ b.lo) (a.hi *ℤ b.hi)

-- the product: the floor of the least and the ceiling of the greatest product of ends, each over the unit
unfoldable pub iv_times : ℕ → Ends → Ends → Step Ends
iv_times scale a b = ends (floor (least_product a b) (unit scale)) (ceil (greatest_product a b) (unit scale))

-- whether 0 lies between the ends
abbrev pub holds_zero : Ends → Bool
holds_zero a = int_le a.lo (pos 0) && int_le (pos 0) a.hi

-- the least size in an interval: 0 where it holds 0, else the smaller size of its ends
abbrev pub least_size : Ends → ℕ
least_size a = if holds_zero a then 0 else min (unsigned_abs a.lo) (unsigned_abs a.hi)

-- the greatest size in an interval: the larger size of its ends
abbrev pub greatest_size : Ends → ℕ
greatest_size a = max (unsigned_abs a.lo) (unsigned_abs a.hi)

-- the square: the squares of the least and the greatest size, over the unit
unfoldable pub iv_square : ℕ → Ends → Step Ends
iv_square scale a =
    ends (floor (pos (least_size a * least_size a)) (unit scale)) (ceil (pos (greatest_size a * greatest_size a)) (unit scale))

-- the floor of the least and the ceiling of the greatest of the four quotients `end U / end`: the least of the floors,
-- and the greatest of the ceilings
abbrev pub least_quotient : ℕ → Ends → Ends → ℤ
least_quotient scale a b =
    let u = unit scale in
    least (floor (a.lo *ℤ u) b.lo) (floor (a.lo *ℤ u) b.hi) (floor (a.hi *ℤ u) b.lo) (floor (a.hi *ℤ u) b.hi)

abbrev pub greatest_quotient : ℕ → Ends → Ends → ℤ
greatest_quotient scale a b =
    let u = unit scale in
    greatest (ceil (a.lo *ℤ u) b.lo) (ceil (a.lo *ℤ u) b.hi) (ceil (a.hi *ℤ u) b.lo) (ceil (a.hi *ℤ u) b.hi)

-- the quotient: Lost Zero exactly where the divisor holds 0
unfoldable pub iv_over : ℕ → Ends → Ends → Step Ends
iv_over scale a b = if holds_zero b then Lost Zero else ends (least_quotient scale a b) (greatest_quotient scale a b)

-- z, or 0 where z is below 0
abbrev pub positive_part : ℤ → ℕ
positive_part (pos n) = n
positive_part (negsuc n) = 0

-- the root: Empty exactly where every number is below 0; else the roots of the ends that are left from 0 on
unfoldable pub iv_root : ℕ → Ends → Step Ends
iv_root scale a =
    if int_lt a.hi (pos 0)
    then Empty
    else ends (pos (root (positive_part a.lo * 10 ^ scale))) (pos (root_up_by (positive_part a.hi * 10 ^ scale)))

-- the ends moved outward by e
unfoldable pub iv_widen : Ends → ℤ → Step Ends
iv_widen a e = ends (a.lo -ℤ e) (a.hi +ℤ e)

-- times 10^-k: rounded outward for k above 0, and exact for k at most 0
unfoldable pub iv_shift : Ends → ℤ → Step Ends
iv_shift a (pos k) = ends (floor a.lo (pos (10 ^ k))) (ceil a.hi (pos (10 ^ k)))
iv_shift a (negsuc k) = ends (a.lo *ℤ pos (10 ^ suc k)) (a.hi *ℤ pos (10 ^ suc k))

-- the numbers that a and s have in common: Empty exactly where there is none
unfoldable pub iv_clip : Ends → Ends → Step Ends
iv_clip a s =
    let lo = int_max a.lo s.lo in
    let hi = int_min a.hi s.hi in
    if int_le lo hi then ends lo hi else Empty

-- the sizes of the numbers of an interval
unfoldable pub iv_size : Ends → Ends
iv_size a = record { lo = pos (least_size a); hi = pos (greatest_size a) }
