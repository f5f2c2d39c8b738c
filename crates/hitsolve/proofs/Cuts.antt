-- The cuts of a window, and its middle, lie within it.
use Rattle.std.proofs.Common.{◌≡◌, ℕ, ◌*◌, ◌^◌, ◌≤◌, refl, arith, to_z, of_z}
use native.Mathlib.Nat.{mul-le-mul_left}
use Rattle.std.proofs.lemmas.Int.{ints, to_z-of_z, fits_signed_from_abs}
use Rattle.std.specs.Int.{w128}
use Rattle.std.specs.Prelude.{ℤ, pos, negsuc, ◌+ℤ◌, ◌-ℤ◌, ◌*ℤ◌, ◌≤ℤ◌, unsigned_abs}
use Rattle.fixdec.specs.Algebra.RoundingLaws.{floor_pos, floor_pos_next}
use Rattle.fixdec.specs.Ends.{Ends, InCap}
use Rattle.fixdec.specs.Rounding.{floor}
use Rattle.lensmodel.specs.Rows.Cells.{cut}
use Rattle.lensmodel.specs.Rows.Spans.{middle}

pub record IsBetween (least greatest x : ℤ) : Type 0 where
  pub low : least ≤ℤ x
  pub high : x ≤ℤ greatest

-- a part of a length, in parts of 64
pub part_of : (d : ℤ) → pos 0 ≤ℤ d → (i : ℕ) → i ≤ 64 → IsBetween (pos 0) (d *ℤ pos 64) (d *ℤ pos i)
part_of (pos n) h i k = let m : n * i ≤ n * 64 = mul-le-mul_left n k in record { low = omega (arith, ints); high = omega (arith, ints) }
part_of (negsuc n) h i k = absurd (omega (arith, ints))

pub cut_between : (a : Ends) → a.lo ≤ℤ a.hi → (i : ℕ) → i ≤ 64 → IsBetween a.lo a.hi (cut a i)
cut_between a h i k =
    let p = part_of (a.hi -ℤ a.lo) (omega (arith, ints)) i k in
    let low = p.low in
    let high = p.high in
    let below = floor_pos ((a.hi -ℤ a.lo) *ℤ pos i) (pos 64) (omega (arith, ints)) in
    let next = floor_pos_next ((a.hi -ℤ a.lo) *ℤ pos i) (pos 64) (omega (arith, ints)) in
    record { low = omega (arith, ints); high = omega (arith, ints) }

pub middle_between : (a : Ends) → a.lo ≤ℤ a.hi → IsBetween a.lo a.hi (middle a)
middle_between a h =
    let below = floor_pos (a.lo +ℤ a.hi) (pos 2) (omega (arith, ints)) in
    let next = floor_pos_next (a.lo +ℤ a.hi) (pos 2) (omega (arith, ints)) in
    record { low = omega (arith, ints); high = omega (arith, ints) }

-- ---- in 128 bits
back : (z : ℤ) → unsigned_abs z ≤ 10 ^ 30 → to_z w128 (of_z w128 z) ≡ z
back z h = to_z-of_z w128 z (fits_signed_from_abs w128 z (omega arith))

pub cut_in_bits : (lo hi x n d : ℤ) (i : ℕ) → lo ≤ℤ hi → InCap lo → InCap hi → i ≤ 64 → x ≡ pos i → n ≡ pos 64
    → d ≡ floor (to_z w128 (of_z w128 (to_z w128 (of_z w128 (to_z w128 (of_z w128 hi) -ℤ to_z w128 (of_z w128 lo))) *ℤ to_z w128 (of_z w128 x)))) (to_z w128 (of_z w128 n))
    → to_z w128 (of_z w128 (to_z w128 (of_z w128 lo) +ℤ to_z w128 (of_z w128 d))) ≡ cut (record { lo = lo; hi = hi }) i
cut_in_bits lo hi x n d i order cl ch h ex en e =
    let p = part_of (hi -ℤ lo) (omega (arith, ints)) i h in
    let b = cut_between (record { lo = lo; hi = hi }) order i h in
    let low = p.low in
    let high = p.high in
    let k : unsigned_abs ((hi -ℤ lo) *ℤ x) ≤ 10 ^ 30 = rw ex (omega (arith, ints)) in
    let f = rw (
      back hi (omega (arith, ints)),
      back lo (omega (arith, ints)),
      back (hi -ℤ lo) (omega (arith, ints)),
      back x (rw ex (omega (arith, ints))),
      back ((hi -ℤ lo) *ℤ x) k,
      back n (rw en (omega (arith, ints))),
      ex,
      en,
    ) at e in
    let near = b.low in
    let far = b.high in
    rw (f, back lo (omega (arith, ints)), back (floor ((hi -ℤ lo) *ℤ pos i) (pos 64)) (omega (arith, ints)), back (lo +ℤ floor ((hi -ℤ lo) *ℤ pos i) (pos 64)) (omega (arith, ints))) refl

pub middle_in_bits : (lo hi d : ℤ) → lo ≤ℤ hi → InCap lo → InCap hi
    → d ≡ floor (to_z w128 (of_z w128 (to_z w128 (of_z w128 lo) +ℤ to_z w128 (of_z w128 hi)))) (pos 2)
    → to_z w128 (of_z w128 d) ≡ middle (record { lo = lo; hi = hi })
middle_in_bits lo hi d order cl ch e =
    let f = rw (back lo (omega (arith, ints)), back hi (omega (arith, ints)), back (lo +ℤ hi) (omega (arith, ints))) at e in
    let b = middle_between (record { lo = lo; hi = hi }) order in
    let near = b.low in
    let far = b.high in
    rw (f, back (floor (lo +ℤ hi) (pos 2)) (omega (arith, ints))) refl
