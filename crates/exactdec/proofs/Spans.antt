-- Rounded products and quotients by powers of ten, and the cap.
use Rattle.std.proofs.Common.{◌≡◌, ℕ, zero, suc, ℤ, pos, negsuc, ◌-◌, ◌*◌, ◌^◌, ◌<◌, ◌≤◌, true, false, refl, sym, ap, ◌∙◌, arith, lit<, to_z, of_z, min, inl, inr}
use Rattle.std.proofs.Math.Nat.{div-eq_of_lt, pow-le-pow_right, mul-le-mul_left, mul-le-mul_right, one-le-pow}
use Rattle.std.proofs.lemmas.Bool.{leb-true, leb-false, lt-leb, cases_lt}
use Rattle.std.proofs.lemmas.Int.{ints, unsigned_abs-mul, to_z-of_z, fits_signed_mul, fits_signed_from_abs}
use Rattle.std.specs.Int.{w32, w128}
use Rattle.std.specs.Int.Signed.{le_z}
use Rattle.std.specs.Prelude.{◌≤ℤ◌, ◌+ℤ◌, ◌*ℤ◌, unsigned_abs, FitsSigned}
use lib.IntN.{neg_ℤ}
use Rattle.fixdec.specs.Interval.{ends, fits_cap}
use Rattle.fixdec.specs.Algebra.Order.{cancel_le}
use Rattle.fixdec.specs.Algebra.PowerLaws.{power_above}
use Rattle.fixdec.specs.Rounding.{floor, ceil}
use Rattle.fixdec.specs.Algebra.RoundingLaws.{floor_below, ceil_above}
use Rattle.fixdec.specs.Scaled.{floor_times, ceil_times}
use Rattle.fixdec.specs.Word.{IsReadable}
use Rattle.fixdec.specs.declared.step.Step.TheVariants.{Val, Lost}
use Rattle.fixdec.specs.declared.step.Why.TheVariants.{Range}

pub ends_val : (lo hi : ℤ) → fits_cap lo ≡ true → fits_cap hi ≡ true → ends lo hi ≡ Val (record { lo = lo; hi = hi })
unfolding ends
ends_val lo hi p q = rw (p, q)

pub ends_lost_lo : (lo hi : ℤ) → fits_cap lo ≡ false → ends lo hi ≡ Lost Range
unfolding ends
ends_lost_lo lo hi p = rw p

pub ends_lost_hi : (lo hi : ℤ) → fits_cap lo ≡ true → fits_cap hi ≡ false → ends lo hi ≡ Lost Range
unfolding ends
ends_lost_hi lo hi p q = rw (p, q)

-- quotients by two divisors that are greater than the dividend
pub floor_far : (m : ℤ) (a b : ℕ) → unsigned_abs m < a → unsigned_abs m < b → floor m (pos a) ≡ floor m (pos b)
floor_far (pos n) a b h k = ap pos (div-eq_of_lt h ∙ sym (div-eq_of_lt k))
floor_far (negsuc n) a b h k =
    let p : n < a = omega arith in
    let q : n < b = omega arith in
    ap negsuc (div-eq_of_lt p ∙ sym (div-eq_of_lt q))

size_neg : (m : ℤ) → unsigned_abs (neg_ℤ m) ≡ unsigned_abs m
size_neg m = omega (arith, ints)

pub ceil_far : (m : ℤ) (a b : ℕ) → unsigned_abs m < a → unsigned_abs m < b → ceil m (pos a) ≡ ceil m (pos b)
ceil_far m a b h k = ap neg_ℤ (floor_far (neg_ℤ m) a b (rw size_neg h) (rw size_neg k))

some_size : (m : ℤ) → (m ≡ pos 0 → ⊥) → 1 ≤ unsigned_abs m
some_size (pos zero) h = absurd (h refl)
some_size (pos (suc n)) h = omega arith
some_size (negsuc n) h = omega arith

-- sizes past the cap stay past it when they are multiplied
pub past_cap : (m : ℤ) (k : ℕ) → fits_cap m ≡ false → fits_cap (m *ℤ pos (10 ^ k)) ≡ false
past_cap m k h =
    let size : unsigned_abs (m *ℤ pos (10 ^ k)) ≡ unsigned_abs m * 10 ^ k = unsigned_abs-mul m (pos (10 ^ k)) in
    let more : unsigned_abs m * 1 ≤ unsigned_abs m * 10 ^ k = mul-le-mul_left (unsigned_abs m) (one-le-pow k 10 (omega arith)) in
    let past : 10 ^ 18 < unsigned_abs m = leb-false (unsigned_abs m) 1_000_000_000_000_000_000 h in
    lt-leb (unsigned_abs (m *ℤ pos (10 ^ k))) 1_000_000_000_000_000_000 (omega arith)

-- a number that isn't 0, times ten to a power above 18
pub far_past_cap : (m : ℤ) (k : ℕ) → (m ≡ pos 0 → ⊥) → 18 < k → fits_cap (m *ℤ pos (10 ^ k)) ≡ false
far_past_cap m k h l =
    let size : unsigned_abs (m *ℤ pos (10 ^ k)) ≡ unsigned_abs m * 10 ^ k = unsigned_abs-mul m (pos (10 ^ k)) in
    let some : 1 ≤ unsigned_abs m = some_size m h in
    let more : 1 * 10 ^ k ≤ unsigned_abs m * 10 ^ k = mul-le-mul_right (10 ^ k) some in
    let power : 10 ^ 19 ≤ 10 ^ k = pow-le-pow_right (omega arith) l in
    lt-leb (unsigned_abs (m *ℤ pos (10 ^ k))) 1_000_000_000_000_000_000 (omega arith)

-- a signed number whose bits are 0
pub zero_from_bits : (z : ℤ) → FitsSigned w128 z → of_z w128 z ≡ 0 → z ≡ pos 0
zero_from_bits z fits e = sym (to_z-of_z w128 z fits) ∙ ap (to_z w128) e

pub in_cap_times : (m : ℤ) (k : ℕ) → fits_cap m ≡ true → k ≤ 18 → FitsSigned w128 (m *ℤ pos (10 ^ k))
in_cap_times m k h l =
    let size : unsigned_abs m ≤ 1_000_000_000_000_000_000 = leb-true (unsigned_abs m) 1_000_000_000_000_000_000 h in
    let power : 10 ^ k ≤ 10 ^ 18 = pow-le-pow_right (omega arith) l in
    fits_signed_mul w128 m (pos (10 ^ k)) (10 ^ 18) (10 ^ 18) size power (lit< tt)

-- a divisor past the dividend may be a nearer one past it
near : (m : ℤ) (j : ℕ) (op : ℤ → ℤ → ℤ) → ((a b : ℕ) → unsigned_abs m < a → unsigned_abs m < b → op m (pos a) ≡ op m (pos b)) → unsigned_abs m < 10 ^ 32 → op m (pos (10 ^ min j 38)) ≡ op m (pos (10 ^ j))
near m j op far h = elim (cases_lt j 38) [
  | inl p ↦ ap (λ (i : ℕ). op m (pos (10 ^ i))) (let l : min j 38 ≡ j = omega arith in l)
  | inr p ↦
      let power : 10 ^ 38 ≤ 10 ^ j = pow-le-pow_right (omega arith) p in
      ap (λ (i : ℕ). op m (pos (10 ^ i))) (let l : min j 38 ≡ 38 = omega arith in l) ∙ far (10 ^ 38) (10 ^ j) (omega arith) (omega arith)
]

pub floor_near : (m k : ℤ) → unsigned_abs m < 10 ^ 32 → le_z (pos 0) k ≡ false → floor m (pos (10 ^ min (unsigned_abs k) 38)) ≡ floor_times m k
floor_near m (pos k) h l = absurd (omega (arith, ints, leb-false 0 k l))
floor_near m (negsuc k) h l = near m (suc k) floor (floor_far m) h

pub ceil_near : (m k : ℤ) → unsigned_abs m < 10 ^ 32 → le_z (pos 0) k ≡ false → ceil m (pos (10 ^ min (unsigned_abs k) 38)) ≡ ceil_times m k
ceil_near m (pos k) h l = absurd (omega (arith, ints, leb-false 0 k l))
ceil_near m (negsuc k) h l = near m (suc k) ceil (ceil_far m) h

-- a power that isn't negative
pub times_whole : (m k : ℤ) → le_z (pos 0) k ≡ true → (floor_times m k ≡ m *ℤ pos (10 ^ unsigned_abs k)) × (ceil_times m k ≡ m *ℤ pos (10 ^ unsigned_abs k))
times_whole m (pos k) h = (refl, refl)
times_whole m (negsuc k) h = cc

pub floor_le_ceil : (m : ℤ) (d : ℕ) → floor m (pos (suc d)) ≤ℤ ceil m (pos (suc d))
floor_le_ceil m d = cancel_le (floor m (pos (suc d))) (ceil m (pos (suc d))) d (omega (arith, ints, floor_below m d, ceil_above m d))

-- the steps of the ends below a power
pub ends_steps : (m k unit f g : ℤ) (size n : ℕ) → unsigned_abs m < 10 ^ 32 → le_z (pos 0) k ≡ false → size ≡ unsigned_abs k → n ≡ min size 38 → unit ≡ pos (10 ^ n) → f ≡ floor m unit → g ≡ ceil m unit → (f ≡ floor_times m k) × (g ≡ ceil_times m k)
ends_steps m k unit f g size n h l p q r s t =
    let e : unit ≡ pos (10 ^ min (unsigned_abs k) 38) = r ∙ ap (λ (i : ℕ). pos (10 ^ i)) (q ∙ ap (λ (i : ℕ). min i 38) p) in
    (s ∙ ap (floor m) e ∙ floor_near m k h l, t ∙ ap (ceil m) e ∙ ceil_near m k h l)

pub times_order : (m k : ℤ) → floor_times m k ≤ℤ ceil_times m k
times_order m (pos k) = omega (arith, ints)
times_order m (negsuc k) = rw power_above at (floor_le_ceil m (10 ^ suc k - 1))

pub fits_sum : (e : ℤ) (n : ℕ) → negsuc 107 ≤ℤ e → e ≤ℤ pos 78 → n ≤ 15 → FitsSigned w32 (e +ℤ pos n)
fits_sum e n l h k = fits_signed_from_abs w32 (e +ℤ pos n) (omega (arith, ints))

pub fits_shift : (e k : ℤ) → IsReadable e → neg_ℤ (pos 48) ≤ℤ k → k ≤ℤ pos 48 → FitsSigned w32 (e +ℤ k) × (negsuc 107 ≤ℤ (e +ℤ k)) × ((e +ℤ k) ≤ℤ pos 78)
fits_shift e k r l h =
    let low = r.low in
    let high = r.high in
    (fits_signed_from_abs w32 (e +ℤ k) (omega (arith, ints)), omega (arith, ints), omega (arith, ints))
