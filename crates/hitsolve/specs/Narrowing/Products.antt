-- Products and squares of narrower intervals.
use Rattle.std.proofs.Common.{◌≡◌, ℕ, ◌*◌, ◌≤◌, false, min, arith, ◌⊎◌, inl, inr}
use Rattle.std.proofs.lemmas.Bool.{cond_both}
use Rattle.std.proofs.lemmas.Int.{ints, clamps}
use Rattle.std.specs.Prelude.{ℤ, pos, ◌*ℤ◌, ◌≤ℤ◌, ◌<ℤ◌, unsigned_abs}
use native.Mathlib.Nat.{mul-le-mul}
use Rattle.fixdec.specs.Algebra.FracLaws.{≈_sym}
use Rattle.fixdec.specs.Algebra.MemberLaws.{unit_pos}
use Rattle.fixdec.specs.Algebra.Order.{le_whole, le_whole_out}
use Rattle.fixdec.specs.Algebra.OrderLaws.{le_same_left, le_same_right, whole_mul}
use Rattle.fixdec.specs.Algebra.Products.{products_low, products_high}
use Rattle.fixdec.specs.Ends.{Ends}
use Rattle.fixdec.specs.Frac.{whole}
use Rattle.fixdec.specs.Interval.{unit, least, greatest, least_product, greatest_product, holds_zero, least_size, greatest_size, iv_times, iv_square}
use Rattle.enclose.specs.EndLaws.{least_product_is, greatest_product_is, least_size-le, without_zero}
use Rattle.hitsolve.specs.Narrowing.Parts.{IsPart, IsNarrower}
use Rattle.hitsolve.specs.Narrowing.Sums.{outward_narrower}

-- z lies between the ends
pub record IsIn (z : ℤ) (a : Ends) : Type 0 where
  pub low : a.lo ≤ℤ z
  pub high : z ≤ℤ a.hi

pub first_in : {a b : Ends} → IsPart a b → IsIn a.lo b
first_in {a} {b} h = let l = h.low in let o = h.order in let u = h.high in record { low = omega (arith, ints); high = omega (arith, ints) }

pub last_in : {a b : Ends} → IsPart a b → IsIn a.hi b
last_in {a} {b} h = let l = h.low in let o = h.order in let u = h.high in record { low = omega (arith, ints); high = omega (arith, ints) }

module _ (b d : Ends) (x y : ℤ) (p : IsIn x b) (q : IsIn y d) where
  product_least : least_product b d ≤ℤ (x *ℤ y)
  product_least =
      le_whole_out (le_same_right (products_low b d (whole x) (whole y) (le_whole p.low) (le_whole p.high) (le_whole q.low) (le_whole q.high) _ (least_product_is b d))
      (≈_sym (whole_mul x y)))

  product_greatest : (x *ℤ y) ≤ℤ greatest_product b d
  product_greatest =
      le_whole_out (le_same_left (whole_mul x y)
      (products_high b d (whole x) (whole y) (le_whole p.low) (le_whole p.high) (le_whole q.low) (le_whole q.high) _ (greatest_product_is b d)))

-- of four numbers between two bounds
pub at_least : (m p q r s : ℤ) → m ≤ℤ p → m ≤ℤ q → m ≤ℤ r → m ≤ℤ s → m ≤ℤ least p q r s
at_least m p q r s a b c d = omega (arith, ints, clamps)

pub at_most : (m p q r s : ℤ) → p ≤ℤ m → q ≤ℤ m → r ≤ℤ m → s ≤ℤ m → greatest p q r s ≤ℤ m
at_most m p q r s a b c d = omega (arith, ints, clamps)

least_le : (p q r s : ℤ) → least p q r s ≤ℤ greatest p q r s
least_le p q r s = omega (arith, ints, clamps)

module _ {a b c d : Ends} (p : IsPart a b) (q : IsPart c d) where
  pub iv_times-narrower : (scale : ℕ) → IsNarrower IsPart (iv_times scale a c) (iv_times scale b d)
  unfolding iv_times
  iv_times-narrower scale =
      let u = first_in p in
      let v = last_in p in
      let x = first_in q in
      let y = last_in q in
      outward_narrower (least_product a c) (greatest_product a c) (least_product b d) (greatest_product b d) (unit scale) (unit_pos scale)
      (at_least _ _ _ _ _ (product_least b d _ _ u x) (product_least b d _ _ u y) (product_least b d _ _ v x) (product_least b d _ _ v y))
      (least_le (a.lo *ℤ c.lo) (a.lo *ℤ c.hi) (a.hi *ℤ c.lo) (a.hi *ℤ c.hi))
      (at_most _ _ _ _ _ (product_greatest b d _ _ u x) (product_greatest b d _ _ u y) (product_greatest b d _ _ v x) (product_greatest b d _ _ v y))

-- ---- sizes
pub zero_wider : (a b : Ends) → IsPart a b → holds_zero b ≡ false → holds_zero a ≡ false
zero_wider a b p e = let l = p.low in let o = p.order in let h = p.high in by (without_zero b e)
  where
    by : (pos 0 <ℤ b.lo) ⊎ (b.hi <ℤ pos 0) → holds_zero a ≡ false
    by (inl k) = let l = p.low in grind (arith, ints)
    by (inr k) = let h = p.high in grind (arith, ints)

size_least : (a b : Ends) → IsPart a b → least_size b ≤ least_size a
size_least a b p =
    cond_both (holds_zero b) 0 (min (unsigned_abs b.lo) (unsigned_abs b.hi)) (λ n. n ≤ least_size a) (λ e. omega arith)
    (λ e. rw (zero_wider a b p e) (by (without_zero b e)))
  where
    by : (pos 0 <ℤ b.lo) ⊎ (b.hi <ℤ pos 0) → min (unsigned_abs b.lo) (unsigned_abs b.hi) ≤ min (unsigned_abs a.lo) (unsigned_abs a.hi)
    by (inl k) = let l = p.low in let o = p.order in let h = p.high in omega (arith, ints)
    by (inr k) = let l = p.low in let o = p.order in let h = p.high in omega (arith, ints)

size_greatest : (a b : Ends) → IsPart a b → greatest_size a ≤ greatest_size b
size_greatest a b p = let l = p.low in let o = p.order in let h = p.high in omega (arith, ints)

square_mono : (m n : ℕ) → m ≤ n → pos (m * m) ≤ℤ pos (n * n)
square_mono m n h = let k : m * m ≤ n * n = mul-le-mul h h in omega (arith, ints)

pub iv_square-narrower : {a b : Ends} → IsPart a b → (scale : ℕ) → IsNarrower IsPart (iv_square scale a) (iv_square scale b)
unfolding iv_square
iv_square-narrower {a} {b} p scale =
    outward_narrower (pos (least_size a * least_size a)) (pos (greatest_size a * greatest_size a)) (pos (least_size b * least_size b)) (pos (greatest_size b * greatest_size b)) (unit scale) (unit_pos scale)
    (square_mono _ _ (size_least a b p)) (square_mono _ _ (least_size-le a)) (square_mono _ _ (size_greatest a b p))
