-- How large rounded quotients are, and what they leave.
use Rattle.std.proofs.Common.{ℕ, zero, suc, ◌≡◌, ◌+◌, ◌*◌, ◌/◌, ◌%◌, ◌≤◌, ◌<◌, List, [], ◌∷◌, Bool, true, false, not, cond, ap, arith, refl, inl, inr}
use Rattle.std.specs.Prelude.{ℤ, pos, negsuc, ◌≢◌, ◌+ℤ◌, ◌-ℤ◌, ◌*ℤ◌, ◌≤ℤ◌, ◌<ℤ◌, unsigned_abs}
use Rattle.std.proofs.lemmas.Int.{ints, by_lt_z, unsigned_abs-mul}
use Rattle.std.proofs.lemmas.Bool.Decides.{same_from_decides, Decides-int_eq}
use Rattle.std.specs.Ordering.{int_eq}
use Rattle.fixdec.specs.Algebra.IntLaws.{ringℤ}
use Rattle.fixdec.specs.Algebra.Order.{scale_le}
use Rattle.fixdec.specs.Algebra.Ring.{var, con, ◌⊕◌, ◌⊗◌}
use Rattle.fixdec.specs.Algebra.RoundingLaws.{floor_pos, floor_pos_next}
use Rattle.std.proofs.lemmas.List.Sums.{sum_by-cons}
use native.Mathlib.Nat.{div-mul-le_self, lt-div-mul-add, mul-le-mul_left, mul-le-mul_right}
use Rattle.std.specs.Int.{div_ceil}
use Rattle.std.proofs.Math.Nat.{div-le_self, div-one}
use Rattle.std.proofs.lemmas.Bool.{cases_eq, cases_lt, not-true, not-false}
use Rattle.std.proofs.lemmas.Grind.{div_ceil_times}
use lib.IntN.{neg_ℤ}
use Rattle.fixdec.specs.Form.{quotients, has_remainder, remainders}
use Rattle.fixdec.specs.Rounding.{floor}

-- by a divisor above 0
quotient_size : (n : ℤ) (d : ℕ) → unsigned_abs (floor n (pos (suc d))) ≤ unsigned_abs n
quotient_size (pos n) d = omega (arith, ints, div-mul-le_self n (suc d))
quotient_size (negsuc n) d = omega (arith, ints, div-mul-le_self n (suc d))

-- a rounded quotient is no larger than its numerator
pub floor_size : (n d : ℤ) → d ≢ pos 0 → unsigned_abs (floor n d) ≤ unsigned_abs n
floor_size n (pos zero) h = absurd (h refl)
floor_size n (pos (suc d)) h = quotient_size n d
floor_size n (negsuc d) h = let s = quotient_size (neg_ℤ n) d in omega (arith, ints)

multiple_size : (n : ℤ) (d : ℕ) → unsigned_abs (floor n (pos (suc d)) *ℤ pos (suc d)) ≤ unsigned_abs n + suc d
multiple_size (pos n) d = omega (arith, ints, div-mul-le_self n (suc d))
multiple_size (negsuc n) d = let l : n < n / suc d * suc d + suc d = lt-div-mul-add (omega arith) in let k = div-mul-le_self n (suc d) in omega (arith, ints)

-- a rounded quotient times its divisor differs from the numerator by less than the divisor's size
pub floor_multiple : (n d : ℤ) → d ≢ pos 0 → unsigned_abs (floor n d *ℤ d) ≤ unsigned_abs n + unsigned_abs d
floor_multiple n (pos zero) h = absurd (h refl)
floor_multiple n (pos (suc d)) h = multiple_size n d
floor_multiple n (negsuc d) h =
    let q = floor (neg_ℤ n) (pos (suc d)) in
    let m = multiple_size (neg_ℤ n) d in
    let e = unsigned_abs-mul q (negsuc d) in
    let f = unsigned_abs-mul q (pos (suc d)) in
    omega (arith, ints)

-- a quotient rounded up is no larger than its numerator
pub ceiling_size : (n d : ℕ) → 0 < d → div_ceil n d ≤ n
ceiling_size n d h = elim (cases_lt n (div_ceil n d)) [
  | inl l ↦ (let t = (div_ceil_times n d h).1 in
      let f : suc n * d ≤ div_ceil n d * d = mul-le-mul_right d l in
      let g : n * 1 ≤ n * d = mul-le-mul_left n h in
      absurd (omega arith))
  | inr l ↦ l
]

-- ---- what makes a quotient the rounded one
past : (n d f y : ℤ) → f <ℤ y → pos 0 <ℤ d → (y *ℤ d) ≤ℤ n → n <ℤ (f *ℤ d +ℤ d) → ⊥
past n (pos zero) f y l z p q = omega (arith, ints)
past n (pos (suc d)) f y l z p q =
    let up : (f +ℤ pos 1) ≤ℤ y = omega (arith, ints) in
    let m = scale_le (f +ℤ pos 1) y d up in
    let A = var 0 in let B = var 1 in
    let e : (f +ℤ pos 1) *ℤ pos (suc d) ≡ f *ℤ pos (suc d) +ℤ pos (suc d) = ringℤ (f ∷ pos (suc d) ∷ []) ((A ⊕ con (pos 1)) ⊗ B) (A ⊗ B ⊕ B) tt in
    omega (arith, ints)
past n (negsuc d) f y l z p q = omega (arith, ints)

-- q is the quotient where what it leaves is from 0 to below the divisor
pub floor_from : (n d q left : ℤ) → pos 0 <ℤ d → left ≡ n -ℤ q *ℤ d → pos 0 ≤ℤ left → left <ℤ d → q ≡ floor n d
floor_from n d q left z e low high =
    let f = floor n d in
    let below = floor_pos n d z in
    let next = floor_pos_next n d z in
    by_lt_z f q (λ l. absurd (past n d f q l z (omega (arith, ints)) next))
    (λ a. by_lt_z q f (λ l. absurd (past n d q f l z below (omega (arith, ints)))) (λ b. omega (arith, ints)))

-- there is a remainder where the quotient leaves something
pub remainder_from : (n d q left : ℤ) → left ≡ n -ℤ q *ℤ d → q ≡ floor n d → not (int_eq left (pos 0)) ≡ has_remainder d n
remainder_from n d q left e f =
    let same : q *ℤ d ≡ floor n d *ℤ d = (λ i. f i *ℤ d) in
    ap not (same_from_decides (int_eq left (pos 0)) (int_eq (floor n d *ℤ d) n) (Decides-int_eq left (pos 0)) (
      (λ t. let h = (Decides-int_eq (floor n d *ℤ d) n).0 t in omega (arith, ints)),
      (λ h. (Decides-int_eq (floor n d *ℤ d) n).1 (omega (arith, ints))),
    ))

-- a quotient rounded up is the one rounded down, and one more where there is a remainder
pub ceiling_more : (n : ℕ) (d : ℤ) → pos 0 <ℤ d → has_remainder d (pos n) ≡ true → unsigned_abs (floor (pos n) d) + 1 ≡ div_ceil n (unsigned_abs d)
ceiling_more n (pos zero) z h = absurd (omega (arith, ints))
ceiling_more n (pos (suc d)) z h =
    let q = pos (n / suc d) *ℤ pos (suc d) in
    let no : int_eq q (pos n) ≡ false = not-true (int_eq q (pos n)) h in
    elim (cases_eq (n % suc d) 0) [
      | inl e ↦ (let yes = (Decides-int_eq q (pos n)).1 (omega (arith, ints)) in absurd (cc))
      | inr e ↦ omega arith
    ]
ceiling_more n (negsuc d) z h = absurd (omega (arith, ints))

pub ceiling_same : (n : ℕ) (d : ℤ) → pos 0 <ℤ d → has_remainder d (pos n) ≡ false → unsigned_abs (floor (pos n) d) ≡ div_ceil n (unsigned_abs d)
ceiling_same n (pos zero) z h = absurd (omega (arith, ints))
ceiling_same n (pos (suc d)) z h =
    let q = pos (n / suc d) *ℤ pos (suc d) in
    let even : q ≡ pos n = (Decides-int_eq q (pos n)).0 (not-false (int_eq q (pos n)) h) in
    omega (arith, ints)
ceiling_same n (negsuc d) z h = absurd (omega (arith, ints))

-- 0 has the quotient 0, and no remainder
pub floor_zero : (d : ℤ) → floor (pos 0) d ≡ pos 0
floor_zero (pos d) = omega (arith, ints, div-le_self 0 d)
floor_zero (negsuc d) = omega (arith, ints, div-le_self 0 (suc d))

pub remainder_zero : (d : ℤ) → let count : ℕ = cond (has_remainder d (pos 0)) 1 0 in count ≡ 0
remainder_zero d =
    let zero : floor (pos 0) d *ℤ d ≡ pos 0 = rw (floor_zero d) (omega (arith, ints)) in
    let yes : int_eq (floor (pos 0) d *ℤ d) (pos 0) ≡ true = (Decides-int_eq (floor (pos 0) d *ℤ d) (pos 0)).1 zero in
    let count : Bool → ℕ = λ b. cond (not b) 1 0 in
    ap count yes

-- by 1 nothing is rounded
pub floor_one : (z : ℤ) → floor z (pos 1) ≡ z
floor_one (pos n) = ap pos (div-one n)
floor_one (negsuc n) = ap negsuc (div-one n)

remainder_one : (z : ℤ) → let count : ℕ = cond (has_remainder (pos 1) z) 1 0 in count ≡ 0
remainder_one z =
    let whole : floor z (pos 1) *ℤ pos 1 ≡ z = rw (floor_one z) (omega (arith, ints)) in
    let yes : int_eq (floor z (pos 1) *ℤ pos 1) z ≡ true = (Decides-int_eq (floor z (pos 1) *ℤ pos 1) z).1 whole in
    let count : Bool → ℕ = λ b. cond (not b) 1 0 in
    ap count yes

pub quotients_one : (ns : List ℤ) → quotients (pos 1) ns ≡ ns
quotients_one [] = refl
quotients_one (n ∷ ns) = (λ i. floor_one n i ∷ quotients_one ns i)

pub remainders_one : (ns : List ℤ) → remainders (pos 1) ns ≡ 0
remainders_one [] = refl
remainders_one (n ∷ ns) =
    let c = sum_by-cons (λ x. cond (has_remainder (pos 1) x) 1 0) n ns in
    let r = remainder_one n in
    let t = remainders_one ns in
    omega arith

pub ceiling_one : (n : ℕ) → div_ceil n 1 ≡ n
ceiling_one n = omega (arith, div-one n)
