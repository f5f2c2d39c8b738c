-- The power of ten that a zone is brought to.
use Rattle.std.proofs.Common.{◌≡◌, ℕ, zero, suc, ℤ, pos, negsuc, ◌+◌, ◌*◌, ◌-◌, ◌^◌, ◌<◌, ◌≤◌, refl, ap, ◌∙◌, arith, inl, inr, [], ◌∷◌, add-zero}
use Rattle.std.proofs.Math.Nat.{mul-le-mul}
use Rattle.std.proofs.lemmas.Bool.{le-leb, lt-leb, cases_lt}
use Rattle.std.proofs.lemmas.Int.{ints}
use Rattle.std.specs.Prelude.{◌≤ℤ◌, ◌+ℤ◌, ◌-ℤ◌, ◌*ℤ◌, unsigned_abs}
use lib.IntN.{neg_ℤ}
use Rattle.fixdec.specs.Decimal.{ten_power}
use Rattle.fixdec.specs.Ends.{Ends}
use Rattle.fixdec.specs.Frac.{whole, ◌≈◌, ◌≤Q◌, ◌*Q◌}
use Rattle.fixdec.specs.Algebra.FracLaws.{≈_sym}
use Rattle.fixdec.specs.Algebra.Terms.{is, is_mul, is_whole, same_if}
use Rattle.fixdec.specs.Algebra.Linear.{linear_le, order, no_fact, reads}
use Rattle.fixdec.specs.Algebra.Order.{cancel_Q, le_of_same, le_trans, le_whole, le_whole_out, nn_in, nn_whole}
use Rattle.fixdec.specs.Algebra.PowerLaws.{ten_power_is}
use Rattle.fixdec.specs.Zone.{least_power, nano, norm, IsNorm, IsZone}

pub least_power-found : (z n k : ℕ) → z * z ≤ 10 ^ k → least_power z n k ≡ k
unfolding least_power
least_power-found z zero k h = refl
least_power-found z (suc n) k h = rw (le-leb (z * z) (10 ^ k) h)

pub least_power-next : (z n k : ℕ) → 10 ^ k < z * z → least_power z (suc n) k ≡ least_power z n (k + 1)
unfolding least_power
least_power-next z n k h = rw (lt-leb (z * z) (10 ^ k) h)

pub least_power-last : (z k : ℕ) → least_power z 0 k ≡ k
unfolding least_power
least_power-last z k = refl

-- it is enough, unless the steps ran out
least_power-bound : (z n k : ℕ) → z * z ≤ 10 ^ (k + n) → z * z ≤ 10 ^ least_power z n k
least_power-bound z zero k h = rw (least_power-last z k) (rw add-zero at h)
least_power-bound z (suc n) k h = elim (cases_lt (10 ^ k) (z * z)) [
  | inl l ↦ let e : k + suc n ≡ k + 1 + n = omega arith in rw (least_power-next z n k l) (least_power-bound z n (k + 1) (rw e at h))
  | inr l ↦ rw (least_power-found z (suc n) k l) l
]

-- and the least that is
least_power-least : (z n k j : ℕ) → k ≤ j → z * z ≤ 10 ^ j → least_power z n k ≤ j
least_power-least z zero k j h l = rw (least_power-last z k) h
least_power-least z (suc n) k j h l = elim (cases_lt (10 ^ k) (z * z)) [
  | inl p ↦
      let more : k + 1 ≤ j = elim (cases_lt k j) [ inl q ↦ omega arith | inr q ↦ let same : j ≡ k = omega arith in let here = rw same at l in absurd (omega arith) ] in
      rw (least_power-next z n k p) (least_power-least z n (k + 1) j more l)
  | inr p ↦ rw (least_power-found z (suc n) k p) h
]

least_power-from : (z n k : ℕ) → k ≤ least_power z n k
least_power-from z zero k = rw (least_power-last z k) (omega arith)
least_power-from z (suc n) k = elim (cases_lt (10 ^ k) (z * z)) [
  | inl p ↦ rw (least_power-next z n k p) (let more = least_power-from z n (k + 1) in omega arith)
  | inr p ↦ rw (least_power-found z (suc n) k p) (omega arith)
]

square_is : (z : ℤ) → z *ℤ z ≡ pos (unsigned_abs z * unsigned_abs z)
square_is (pos n) = refl
square_is (negsuc n) = refl

nano_square : (z : ℤ) → nano z *Q nano z *Q whole (pos (10 ^ 18)) ≈ whole (pos (unsigned_abs z * unsigned_abs z))
nano_square z =
    same_if (is_mul (is_mul (is (nano z)) (is (nano z))) (is_whole (pos (10 ^ 18)))) (is_whole (pos (unsigned_abs z * unsigned_abs z)))
    (ap (λ (w : ℤ). w *ℤ pos (10 ^ 18) *ℤ pos 1) (square_is z) ∙ omega (arith, ints))

-- the square is at most ten to e exactly where the whole square is at most ten to k, with k = e + 18
square_below : (z e : ℤ) (k : ℕ) → e +ℤ pos 18 ≡ pos k → unsigned_abs z * unsigned_abs z ≤ 10 ^ k → nano z *Q nano z ≤Q ten_power e
square_below z e k h l = cancel_Q (nano z *Q nano z) (ten_power e) 999_999_999_999_999_999
    (le_trans (le_of_same (nano_square z)) (le_trans (le_whole (omega (arith, ints))) (le_of_same (≈_sym (ten_power_is e k 18 h)))))

whole_square : (z e : ℤ) (k : ℕ) → e +ℤ pos 18 ≡ pos k → nano z *Q nano z ≤Q ten_power e → unsigned_abs z * unsigned_abs z ≤ 10 ^ k
whole_square z e k h l =
    let U = whole (pos (10 ^ 18)) in
    let more : nano z *Q nano z *Q U ≤Q ten_power e *Q U =
    linear_le (nano z ∷ ten_power e ∷ U ∷ []) _ _ (search reads depth 20 fits 4000) (order (nn_in (nn_whole (10 ^ 18))) l (search reads depth 20 fits 4000) no_fact) tt in
    let both : pos (unsigned_abs z * unsigned_abs z) ≤ℤ pos (10 ^ k) = le_whole_out (le_trans (le_of_same (≈_sym (nano_square z))) (le_trans more (le_of_same (ten_power_is e k 18 h)))) in
    omega (arith, ints)

abs_from_minus_six : (e : ℤ) → neg_ℤ (pos 6) ≤ℤ e → (k : ℕ) × (e +ℤ pos 18 ≡ pos k) × (12 ≤ k)
abs_from_minus_six (pos n) h = (n + 18, refl, omega arith)
abs_from_minus_six (negsuc n) h = (17 - n, omega (arith, ints), omega (arith, ints))

-- the norm is what it is to be
pub norm_is : (z : ℤ) → unsigned_abs z ≤ 10 ^ 12 → IsNorm z (norm z)
unfolding norm
norm_is z h =
    let size = unsigned_abs z in
    let most : size * size ≤ 10 ^ 24 = mul-le-mul h h in
    let from = least_power-from size 12 12 in
    let upto = least_power-least size 12 12 24 (omega arith) most in
    record {
      low = omega (arith, ints);
      high = omega (arith, ints);
      bound = square_below z (pos (least_power size 12 12) -ℤ pos 18) (least_power size 12 12) (omega (arith, ints)) (least_power-bound size 12 12 most);
      least = λ e l b.
          let k = abs_from_minus_six e l in
          let j = least_power-least size 12 12 k.0 k.2 (whole_square z e k.0 k.1 b) in
          let is = k.1 in
          omega (arith, ints);
    }

pub size_of_zone : (a : Ends) → IsZone a → unsigned_abs a.hi ≤ 10 ^ 12
size_of_zone a h = let low = h.low in let one = h.one in let high = h.high in omega (arith, ints)
