-- Laws of rounded quotients: what a floor and a ceiling leave, and that they are the exact floor and ceiling.
use Rattle.std.proofs.Common.{◌≡◌, ℕ, zero, suc, refl, sym, subst, [], ◌∷◌, arith}
use Rattle.std.proofs.lemmas.Int.{ints, by_lt_z}
use Rattle.std.specs.Prelude.{◌*◌, ◌+◌, ◌/◌, ◌<◌, ℤ, pos, negsuc, ◌+ℤ◌, ◌*ℤ◌, ◌≤ℤ◌, ◌<ℤ◌}
use lib.IntN.{neg_ℤ}
use native.Mathlib.Nat.{div-mul-le_self, lt-div-mul-add}
use Rattle.fixdec.specs.Algebra.Ring.{var, con, ◌⊕◌, ◌⊗◌, neg}
use Rattle.fixdec.specs.Frac.{Frac, ◌≈◌, ◌≤Q◌, ◌*Q◌, neg_Q, whole}
use Rattle.fixdec.specs.Algebra.IntLaws.{ringℤ}
use Rattle.fixdec.specs.Algebra.FracLaws.{≈_sym}
use Rattle.fixdec.specs.Algebra.Terms.{is, is_mul, is_neg, is_whole, same_if}
use Rattle.fixdec.specs.Algebra.Linear.{linear, name, no_fact, reads}
use Rattle.fixdec.specs.Algebra.Order.{scale_le, cancel_Q, le_trans, le_whole, le_whole_out}
use Rattle.fixdec.specs.Algebra.OrderLaws.{le_along, le_neg, le_mul, le_cancel, le_same_left, le_same_right, lt_whole, whole_mul, whole_neg, zero_le_whole}
use Rattle.fixdec.specs.Rounding.{floor, ceil, ratio, IsFloor, IsCeil}

pub floor_below : (n : ℤ) (d : ℕ) → (floor n (pos (suc d)) *ℤ pos (suc d)) ≤ℤ n
floor_below (pos n) d = omega (arith, ints, div-mul-le_self n (suc d))
floor_below (negsuc n) d = let l : n < n / suc d * suc d + suc d = lt-div-mul-add (omega arith) in omega (arith, ints)

pub ceil_above : (n : ℤ) (d : ℕ) → n ≤ℤ (ceil n (pos (suc d)) *ℤ pos (suc d))
ceil_above n d =
    let f = floor_below (neg_ℤ n) d in
    let A = var 0 in let B = var 1 in
    let e : neg_ℤ (floor (neg_ℤ n) (pos (suc d))) *ℤ pos (suc d) ≡ neg_ℤ (floor (neg_ℤ n) (pos (suc d)) *ℤ pos (suc d)) =
    ringℤ (floor (neg_ℤ n) (pos (suc d)) ∷ pos (suc d) ∷ []) (neg A ⊗ B) (neg (A ⊗ B)) tt in
    omega (arith, ints)

neg_left : (a b : ℤ) → neg_ℤ a *ℤ b ≡ neg_ℤ (a *ℤ b)
neg_left a b = let A = var 0 in let B = var 1 in ringℤ (a ∷ b ∷ []) (neg A ⊗ B) (neg (A ⊗ B)) tt

neg_right : (a b : ℤ) → a *ℤ neg_ℤ b ≡ neg_ℤ (a *ℤ b)
neg_right a b = let A = var 0 in let B = var 1 in ringℤ (a ∷ b ∷ []) (A ⊗ neg B) (neg (A ⊗ B)) tt

floor_next : (n : ℤ) (d : ℕ) → n <ℤ (floor n (pos (suc d)) *ℤ pos (suc d) +ℤ pos (suc d))
floor_next (pos n) d = omega (arith, ints, lt-div-mul-add {a = n} {b = suc d} (omega arith))
floor_next (negsuc n) d = let l = div-mul-le_self n (suc d) in omega (arith, ints)

-- ---- a divisor above 0: floor times divisor is at most n, and less than a divisor below it
pub floor_pos : (n d : ℤ) → pos 0 <ℤ d → (floor n d *ℤ d) ≤ℤ n
floor_pos n (pos zero) h = absurd (omega (arith, ints))
floor_pos n (pos (suc d)) h = floor_below n d
floor_pos n (negsuc d) h = absurd (omega (arith, ints))

pub floor_pos_next : (n d : ℤ) → pos 0 <ℤ d → n <ℤ (floor n d *ℤ d +ℤ d)
floor_pos_next n (pos zero) h = absurd (omega (arith, ints))
floor_pos_next n (pos (suc d)) h = floor_next n d
floor_pos_next n (negsuc d) h = absurd (omega (arith, ints))

pub ceil_pos : (n d : ℤ) → pos 0 <ℤ d → n ≤ℤ (ceil n d *ℤ d)
ceil_pos n (pos zero) h = absurd (omega (arith, ints))
ceil_pos n (pos (suc d)) h = ceil_above n d
ceil_pos n (negsuc d) h = absurd (omega (arith, ints))

-- ---- a divisor below 0: both are turned
pub floor_neg : (n d : ℤ) → d <ℤ pos 0 → n ≤ℤ (floor n d *ℤ d)
floor_neg n (pos d) h = absurd (omega (arith, ints))
floor_neg n (negsuc d) h =
    let f = floor_below (neg_ℤ n) d in
    let e = neg_right (floor (neg_ℤ n) (pos (suc d))) (pos (suc d)) in
    omega (arith, ints)

pub floor_neg_next : (n d : ℤ) → d <ℤ pos 0 → (floor n d *ℤ d +ℤ d) <ℤ n
floor_neg_next n (pos d) h = absurd (omega (arith, ints))
floor_neg_next n (negsuc d) h =
    let f = floor_next (neg_ℤ n) d in
    let e = neg_right (floor (neg_ℤ n) (pos (suc d))) (pos (suc d)) in
    omega (arith, ints)

pub ceil_neg : (n d : ℤ) → d <ℤ pos 0 → (ceil n d *ℤ d) ≤ℤ n
ceil_neg n d h =
    let f = floor_neg (neg_ℤ n) d h in
    let e = neg_left (floor (neg_ℤ n) d) d in
    omega (arith, ints)

-- ---- the exact floor and ceiling
-- n / d times d is n
pub ratio_is : (n d : ℤ) → (d ≡ pos 0 → ⊥) → ratio n d *Q whole d ≈ whole n
ratio_is n (pos zero) h = absurd (h refl)
ratio_is n (pos (suc d)) h =
    let A = var 0 in let B = var 1 in let one = con (pos 1) in
    same_if (is_mul (is record { num = n; less = d }) (is_whole (pos (suc d)))) (is_whole n) (ringℤ (n ∷ pos (suc d) ∷ []) (A ⊗ B ⊗ one) (A ⊗ (B ⊗ one)) tt)
ratio_is n (negsuc d) h =
    let A = var 0 in let B = var 1 in let one = con (pos 1) in
    same_if (is_mul (is record { num = neg_ℤ n; less = d }) (is_whole (negsuc d))) (is_whole n)
    (ringℤ (n ∷ pos (suc d) ∷ []) (neg A ⊗ neg B ⊗ one) (A ⊗ (B ⊗ one)) tt)

ratio_neg : (n d : ℤ) → ratio (neg_ℤ n) d ≈ neg_Q (ratio n d)
ratio_neg n (pos zero) = same_if (is_whole (pos 0)) (is_neg (is_whole (pos 0))) (omega (arith, ints))
ratio_neg n (pos (suc d)) = let A = var 0 in let B = var 1 in
    same_if (is record { num = neg_ℤ n; less = d }) (is_neg (is record { num = n; less = d })) (ringℤ (n ∷ pos (suc d) ∷ []) (neg A ⊗ B) (neg A ⊗ B) tt)
ratio_neg n (negsuc d) = let A = var 0 in let B = var 1 in
    same_if (is record { num = neg_ℤ (neg_ℤ n); less = d }) (is_neg (is record { num = neg_ℤ n; less = d })) (ringℤ (n ∷ pos (suc d) ∷ []) (neg (neg A) ⊗ B) (neg (neg A) ⊗ B) tt)

-- whole numbers at most n / (d + 1)
le_ratio : (n z : ℤ) (d : ℕ) → (z *ℤ pos (suc d)) ≤ℤ n → whole z ≤Q ratio n (pos (suc d))
le_ratio n z d h =
    cancel_Q _ _ d (le_along (whole_mul z (pos (suc d))) (≈_sym (ratio_is n (pos (suc d)) (λ e. omega (arith, ints)))) (le_whole h))

le_ratio_out : (n z : ℤ) (d : ℕ) → whole z ≤Q ratio n (pos (suc d)) → (z *ℤ pos (suc d)) ≤ℤ n
le_ratio_out n z d h =
    le_whole_out (le_along (≈_sym (whole_mul z (pos (suc d)))) (ratio_is n (pos (suc d)) (λ e. omega (arith, ints)))
    (le_mul (whole (pos (suc d))) (zero_le_whole (suc d)) h))

floor_ratio : (n : ℤ) (d : ℕ) → IsFloor (ratio n (pos (suc d))) (floor n (pos (suc d)))
floor_ratio n d = record {
  below = le_ratio n _ d (floor_below n d);
  greatest = λ y h. by_lt_z (floor n (pos (suc d))) y (λ l. absurd (past (floor n (pos (suc d))) y l (le_ratio_out n y d h) (floor_next n d))) (λ l. l);
}
  where
    past : (f y : ℤ) → f <ℤ y → (y *ℤ pos (suc d)) ≤ℤ n → n <ℤ (f *ℤ pos (suc d) +ℤ pos (suc d)) → ⊥
    past f y l p q =
        let up : (f +ℤ pos 1) ≤ℤ y = omega (arith, ints) in
        let m = scale_le (f +ℤ pos 1) y d up in
        let A = var 0 in let B = var 1 in
        let e : (f +ℤ pos 1) *ℤ pos (suc d) ≡ f *ℤ pos (suc d) +ℤ pos (suc d) = ringℤ (f ∷ pos (suc d) ∷ []) ((A ⊕ con (pos 1)) ⊗ B) (A ⊗ B ⊕ B) tt in
        omega (arith, ints)

pub floor_is : (n d : ℤ) → (d ≡ pos 0 → ⊥) → IsFloor (ratio n d) (floor n d)
floor_is n (pos zero) h = absurd (h refl)
floor_is n (pos (suc d)) h = floor_ratio n d
floor_is n (negsuc d) h = floor_ratio (neg_ℤ n) d

pub ceil_is : (n d : ℤ) → (d ≡ pos 0 → ⊥) → IsCeil (ratio n d) (ceil n d)
ceil_is n d h =
    let f = floor_is (neg_ℤ n) d h in
    let turned : neg_Q (ratio (neg_ℤ n) d) ≈ ratio n d =
    linear (ratio (neg_ℤ n) d ∷ ratio n d ∷ []) _ _ (search reads depth 12) (name (ratio_neg n d) (search reads depth 12) no_fact) tt in
    record {
      above = le_along turned (≈_sym (whole_neg (floor (neg_ℤ n) d))) (le_neg f.below);
      least = λ y l.
          let k = f.greatest (neg_ℤ y) (le_along (≈_sym (whole_neg y)) (≈_sym (ratio_neg n d)) (le_neg l)) in
          omega (arith, ints);
    }

-- ---- under a divisor above 0
-- where m is at most x d, floor (m / d) is at most x
pub floor_under : (m d : ℤ) (x : Frac) → pos 0 <ℤ d → whole m ≤Q x *Q whole d → whole (floor m d) ≤Q x
floor_under m d x h l =
    le_cancel (whole d) (lt_whole h) (le_trans (le_same_left (≈_sym (whole_mul (floor m d) d)) (le_whole (floor_pos m d h))) l)

-- where x d is at most m, x is at most ceil (m / d)
pub ceil_over : (m d : ℤ) (x : Frac) → pos 0 <ℤ d → x *Q whole d ≤Q whole m → x ≤Q whole (ceil m d)
ceil_over m d x h l =
    le_cancel (whole d) (lt_whole h) (le_trans l (le_same_right (le_whole (ceil_pos m d h)) (whole_mul (ceil m d) d)))

-- what is equal to the rounded quotient is the exact one
pub floor_at : (n d z : ℤ) → (d ≡ pos 0 → ⊥) → z ≡ floor n d → IsFloor (ratio n d) z
floor_at n d z h e = subst (λ y. IsFloor (ratio n d) y) (sym e) (floor_is n d h)

pub ceil_at : (n d z : ℤ) → (d ≡ pos 0 → ⊥) → z ≡ ceil n d → IsCeil (ratio n d) z
ceil_at n d z h e = subst (λ y. IsCeil (ratio n d) y) (sym e) (ceil_is n d h)
