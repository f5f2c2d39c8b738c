-- Sizes of fractions: how far from 0 one may lie, under sums, products and cancelling.
use Rattle.std.proofs.Common.{ℕ, [], ◌∷◌, arith}
use Rattle.std.proofs.lemmas.Int.{ints}
use Rattle.std.specs.Prelude.{ℤ, pos, unsigned_abs}
use Rattle.fixdec.specs.Frac.{Frac, ◌≈◌, ◌≤Q◌, ◌<Q◌, ◌+Q◌, ◌*Q◌, ◌-Q◌, neg_Q, whole}
use Rattle.fixdec.specs.Algebra.FracLaws.{≈_sym}
use Rattle.fixdec.specs.Algebra.Linear.{linear_le, order, no_fact, reads}
use Rattle.fixdec.specs.Algebra.Order.{le_trans, le_of_same, le_whole}
use Rattle.fixdec.specs.Algebra.OrderLaws.{le_cancel, lt_whole, le_same_left, le_same_right, whole_neg, zero_le_one, zero_le_whole}

-- x has at most the size p
pub record HasSize (p x : Frac) : Type 0 where
  pub above : x ≤Q p
  pub below : neg_Q p ≤Q x

-- a number that has a size at most p shows that p isn't negative
pub within_nn : {p x : Frac} → HasSize p x → whole (pos 0) ≤Q p
within_nn {p} {x} h =
    le_cancel (whole (pos 2)) (lt_whole (omega (arith, ints)))
    (linear_le (p ∷ x ∷ []) _ _ (search reads depth 12)
    (order zero_le_one h.above (search reads depth 12) (order zero_le_one h.below (search reads depth 12) no_fact)) tt)

pub within_more : {p q x : Frac} → p ≤Q q → HasSize p x → HasSize q x
within_more {p} {q} {x} k h = record {
  above = le_trans h.above k;
  below = linear_le (x ∷ p ∷ q ∷ []) _ _ (search reads depth 12) (order zero_le_one h.below (search reads depth 12) (order zero_le_one k (search reads depth 12) no_fact)) tt;
}

pub within_same : {p x y : Frac} → x ≈ y → HasSize p x → HasSize p y
within_same e h = record { above = le_same_left (≈_sym e) h.above; below = le_same_right h.below e }

pub within_to : {p q x : Frac} → p ≈ q → HasSize p x → HasSize q x
within_to e h = within_more (le_of_same e) h

pub within_neg : {p x : Frac} → HasSize p x → HasSize p (neg_Q x)
within_neg {p} {x} h = record {
  above = linear_le (x ∷ p ∷ []) _ _ (search reads depth 12) (order zero_le_one h.below (search reads depth 12) no_fact) tt;
  below = linear_le (x ∷ p ∷ []) _ _ (search reads depth 12) (order zero_le_one h.above (search reads depth 12) no_fact) tt;
}

pub within_add : {p q x y : Frac} → HasSize p x → HasSize q y → HasSize (p +Q q) (x +Q y)
within_add {p} {q} {x} {y} h k = record {
  above = linear_le (x ∷ p ∷ y ∷ q ∷ []) _ _ (search reads depth 12) (order zero_le_one h.above (search reads depth 12) (order zero_le_one k.above (search reads depth 12) no_fact)) tt;
  below = linear_le (x ∷ p ∷ y ∷ q ∷ []) _ _ (search reads depth 12) (order zero_le_one h.below (search reads depth 12) (order zero_le_one k.below (search reads depth 12) no_fact)) tt;
}

pub within_sub : {p q x y : Frac} → HasSize p x → HasSize q y → HasSize (p +Q q) (x -Q y)
within_sub {p} {q} {x} {y} h k = record {
  above = linear_le (x ∷ p ∷ y ∷ q ∷ []) _ _ (search reads depth 12) (order zero_le_one h.above (search reads depth 12) (order zero_le_one k.below (search reads depth 12) no_fact)) tt;
  below = linear_le (x ∷ p ∷ y ∷ q ∷ []) _ _ (search reads depth 12) (order zero_le_one h.below (search reads depth 12) (order zero_le_one k.above (search reads depth 12) no_fact)) tt;
}

pub within_mul : {p q x y : Frac} → HasSize p x → HasSize q y → HasSize (p *Q q) (x *Q y)
within_mul {p} {q} {x} {y} h k = record {
  above = le_cancel (whole (pos 2)) two (linear_le (x ∷ p ∷ y ∷ q ∷ []) _ _ (search reads depth 12)
      (order over h.above (search reads depth 12) (order under k.above (search reads depth 12) no_fact)) tt);
  below = le_cancel (whole (pos 2)) two (linear_le (x ∷ p ∷ y ∷ q ∷ []) _ _ (search reads depth 12)
      (order over h.below (search reads depth 12) (order room k.above (search reads depth 12) no_fact)) tt);
}
  where
    two : whole (pos 0) <Q whole (pos 2)
    two = lt_whole (omega (arith, ints))

    over : whole (pos 0) ≤Q q +Q y
    over = linear_le (y ∷ q ∷ []) _ _ (search reads depth 12) (order zero_le_one k.below (search reads depth 12) no_fact) tt

    under : whole (pos 0) ≤Q p +Q x
    under = linear_le (x ∷ p ∷ []) _ _ (search reads depth 12) (order zero_le_one h.below (search reads depth 12) no_fact) tt

    room : whole (pos 0) ≤Q p -Q x
    room = linear_le (x ∷ p ∷ []) _ _ (search reads depth 12) (order zero_le_one h.above (search reads depth 12) no_fact) tt

-- a positive factor cancels
pub within_cancel : {p x : Frac} (k : Frac) → whole (pos 0) <Q k → HasSize (p *Q k) (x *Q k) → HasSize p x
within_cancel {p} {x} k n h = record {
  above = le_cancel k n h.above;
  below = le_cancel k n (linear_le (x ∷ p ∷ k ∷ []) _ _ (search reads depth 12) (order zero_le_one h.below (search reads depth 12) no_fact) tt);
}

-- a whole number is within its size
pub within_whole : (k : ℤ) → HasSize (whole (pos (unsigned_abs k))) (whole k)
within_whole k = record {
  above = le_whole (omega (arith, ints));
  below = le_trans (le_of_same (≈_sym (whole_neg (pos (unsigned_abs k))))) (le_whole (omega (arith, ints)));
}

-- 0 is within each size
pub within_zero : (n : ℕ) → HasSize (whole (pos n)) (whole (pos 0))
within_zero n = within_more (zero_le_whole n) (within_whole (pos 0))
