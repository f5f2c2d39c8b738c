-- What the ends of the operations are: below and above what they bound.
use Rattle.std.proofs.Common.{◌≡◌, ℕ, ◌*◌, ◌^◌, ◌≤◌, true, false, min, refl, arith, ◌⊎◌, inl, inr}
use Rattle.std.proofs.lemmas.Int.{ints, clamps, by_lt_z}
use Rattle.std.specs.Prelude.{ℤ, pos, negsuc, ◌*ℤ◌, ◌≤ℤ◌, ◌<ℤ◌, unsigned_abs, if◌then◌else◌}
use native.Mathlib.Nat.{mul-le-mul}
use Rattle.std.proofs.lemmas.Bool.{cond_both}
use Rattle.std.proofs.lemmas.Bool.Decides.{nat_tests}
use Rattle.fixdec.specs.Ends.{Ends, InCap}
use Rattle.fixdec.specs.Interval.{ends, fits_cap, unit, least, greatest, least_product, greatest_product, holds_zero, least_size, greatest_size, least_quotient, greatest_quotient, positive_part}
use Rattle.fixdec.specs.Algebra.Products.{IsBelowProducts, IsAboveProducts, IsBelowSizes, IsAboveSizes}
use Rattle.fixdec.specs.Algebra.Quotients.{IsBelowQuotients, IsAboveQuotients}
use Rattle.fixdec.specs.Root.{root, root_up_by}
use Rattle.fixdec.specs.Algebra.RootLaws.{root_is, root_unique, root_up_by_is}
use Rattle.fixdec.specs.Algebra.Roots.{IsBelowRoot, IsAboveRoot}
use Rattle.fixdec.specs.Rounding.{floor, ceil}
use Rattle.fixdec.specs.declared.step.Step.TheVariants.{Val}

-- ---- ends within the cap are the answer
within : (z : ℤ) → InCap z → fits_cap z ≡ true
within z h = grind (arith, nat_tests)

pub ends_kept : (lo hi : ℤ) → InCap lo → InCap hi → ends lo hi ≡ Val (record { lo = lo; hi = hi })
unfolding ends
ends_kept lo hi p q = rw (within lo p, within hi q)

-- ---- four numbers
pub record IsBelow (m p q r s : ℤ) : Type 0 where
  pub first : m ≤ℤ p
  pub second : m ≤ℤ q
  pub third : m ≤ℤ r
  pub fourth : m ≤ℤ s

pub record IsAbove (m p q r s : ℤ) : Type 0 where
  pub first : p ≤ℤ m
  pub second : q ≤ℤ m
  pub third : r ≤ℤ m
  pub fourth : s ≤ℤ m

pub least_is : (p q r s : ℤ) → IsBelow (least p q r s) p q r s
least_is p q r s = record { first = omega (arith, ints, clamps); second = omega (arith, ints, clamps); third = omega (arith, ints, clamps); fourth = omega (arith, ints, clamps) }

pub greatest_is : (p q r s : ℤ) → IsAbove (greatest p q r s) p q r s
greatest_is p q r s = record { first = omega (arith, ints, clamps); second = omega (arith, ints, clamps); third = omega (arith, ints, clamps); fourth = omega (arith, ints, clamps) }

-- ---- products and quotients of ends
pub least_product_is : (a b : Ends) → IsBelowProducts (least_product a b) a b
least_product_is a b =
    let l = least_is (a.lo *ℤ b.lo) (a.lo *ℤ b.hi) (a.hi *ℤ b.lo) (a.hi *ℤ b.hi) in
    record { lo_lo = l.first; lo_hi = l.second; hi_lo = l.third; hi_hi = l.fourth }

pub greatest_product_is : (a b : Ends) → IsAboveProducts (greatest_product a b) a b
greatest_product_is a b =
    let l = greatest_is (a.lo *ℤ b.lo) (a.lo *ℤ b.hi) (a.hi *ℤ b.lo) (a.hi *ℤ b.hi) in
    record { lo_lo = l.first; lo_hi = l.second; hi_lo = l.third; hi_hi = l.fourth }

pub least_quotient_is : (scale : ℕ) (a b : Ends) → IsBelowQuotients scale (least_quotient scale a b) a b
least_quotient_is scale a b =
    let u = unit scale in
    let l = least_is (floor (a.lo *ℤ u) b.lo) (floor (a.lo *ℤ u) b.hi) (floor (a.hi *ℤ u) b.lo) (floor (a.hi *ℤ u) b.hi) in
    record { lo_lo = l.first; lo_hi = l.second; hi_lo = l.third; hi_hi = l.fourth }

pub greatest_quotient_is : (scale : ℕ) (a b : Ends) → IsAboveQuotients scale (greatest_quotient scale a b) a b
greatest_quotient_is scale a b =
    let u = unit scale in
    let l = greatest_is (ceil (a.lo *ℤ u) b.lo) (ceil (a.lo *ℤ u) b.hi) (ceil (a.hi *ℤ u) b.lo) (ceil (a.hi *ℤ u) b.hi) in
    record { lo_lo = l.first; lo_hi = l.second; hi_lo = l.third; hi_hi = l.fourth }

-- ---- zero
-- what doesn't hold 0 lies on one side of it
pub without_zero : (a : Ends) → holds_zero a ≡ false → (pos 0 <ℤ a.lo) ⊎ (a.hi <ℤ pos 0)
without_zero a e = by_lt_z {P = (pos 0 <ℤ a.lo) ⊎ (a.hi <ℤ pos 0)} a.hi (pos 0) inr (λ h. by_lt_z {P = (pos 0 <ℤ a.lo) ⊎ (a.hi <ℤ pos 0)} (pos 0) a.lo inl (λ k. absurd (holds k h)))
  where
    holds : a.lo ≤ℤ pos 0 → pos 0 ≤ℤ a.hi → ⊥
    holds h k = grind (arith, ints)

-- ---- sizes
pub least_size-le : (a : Ends) → least_size a ≤ greatest_size a
least_size-le a = elim (holds_zero a) as (λ b. (if b then 0 else min (unsigned_abs a.lo) (unsigned_abs a.hi)) ≤ greatest_size a) [
  | true ↦ omega arith
  | false ↦ omega arith
]

-- and so are their squares in order
pub least_square-le : (a : Ends) → least_size a * least_size a ≤ greatest_size a * greatest_size a
least_square-le a = mul-le-mul (least_size-le a) (least_size-le a)

pub least_size_is : (a : Ends) → IsBelowSizes (least_size a) a
least_size_is a = cond_both (holds_zero a) 0 (min (unsigned_abs a.lo) (unsigned_abs a.hi)) (λ m. IsBelowSizes m a) (λ e. inl refl) (λ e. by (without_zero a e))
  where
    by : (pos 0 <ℤ a.lo) ⊎ (a.hi <ℤ pos 0) → IsBelowSizes (min (unsigned_abs a.lo) (unsigned_abs a.hi)) a
    by (inl h) = inr (inl (omega (arith, ints)))
    by (inr h) = inr (inr (omega (arith, ints)))

pub greatest_size_is : (a : Ends) → IsAboveSizes (greatest_size a) a
greatest_size_is a = record { low = omega (arith, ints); high = omega (arith, ints) }

-- ---- roots
root_zero : (n : ℕ) → root (0 * n) ≡ 0
root_zero n = let e : 0 * n ≡ 0 = omega arith in rw e (root_unique 0 (root 0) 0 (root_is 0) record { low = omega arith; high = omega arith })

pub root_low : (scale : ℕ) (a : Ends) → IsBelowRoot scale (root (positive_part a.lo * 10 ^ scale)) a
root_low scale a = by a.lo
  where
    by : (lo : ℤ) → (root (positive_part lo * 10 ^ scale) ≡ 0) ⊎ (pos (root (positive_part lo * 10 ^ scale) * root (positive_part lo * 10 ^ scale)) ≤ℤ (lo *ℤ pos (10 ^ scale)))
    by (pos n) = inr (let h = (root_is (n * 10 ^ scale)).low in omega (arith, ints))
    by (negsuc n) = inl (root_zero (10 ^ scale))

pub root_high : (scale : ℕ) (a : Ends) → IsAboveRoot scale (root_up_by (positive_part a.hi * 10 ^ scale)) a
root_high scale a = by a.hi
  where
    by : (hi : ℤ) → (hi *ℤ pos (10 ^ scale)) ≤ℤ pos (root_up_by (positive_part hi * 10 ^ scale) * root_up_by (positive_part hi * 10 ^ scale))
    by (pos n) = let h = (root_up_by_is (n * 10 ^ scale)).high in omega (arith, ints)
    by (negsuc n) = omega (arith, ints)
