-- How large raw numbers and their products are, and that they fit.
use Rattle.std.proofs.Common.{ℕ, ◌≡◌, ◌≤◌, ◌^◌, ◌*◌, arith, ap, ◌∙◌}
use Rattle.std.specs.Prelude.{ℤ, pos, ◌*ℤ◌, unsigned_abs, FitsSigned}
use Rattle.std.specs.Int.{w64, w128, cast_signed, cast_unsigned, int_min, int_max}
use Rattle.std.proofs.Math.Nat.{pow-le-pow_right}
use Rattle.std.proofs.lemmas.Int.{ints, clamps, to_z-of_z, fits_signed_from_abs, unsigned_abs-mul}
use native.Mathlib.Nat.{mul-le-mul}
use Rattle.fixdec.specs.Ends.{InCap}
use Rattle.fixdec.specs.Interval.{least, greatest}

-- a number of at most 38 digits fits, and stays what it is
pub fits : (z : ℤ) → unsigned_abs z ≤ 10 ^ 38 → FitsSigned w128 z
fits z h = fits_signed_from_abs w128 z (omega arith)

pub as_is : (z : ℤ) → unsigned_abs z ≤ 10 ^ 38 → cast_signed w128 (cast_unsigned w128 z) ≡ z
as_is z h = to_z-of_z w128 z (fits z h)

pub small_is : (z : ℤ) → InCap z → cast_signed w128 (cast_unsigned w128 z) ≡ z
small_is z h = as_is z (omega arith)

pub product_size : (x y : ℤ) → InCap x → InCap y → unsigned_abs (x *ℤ y) ≤ 10 ^ 36
product_size x y p q =
    let m : unsigned_abs x * unsigned_abs y ≤ 10 ^ 18 * 10 ^ 18 = mul-le-mul p q in
    omega (arith, unsigned_abs-mul x y)

-- ten to a power of at most 15
pub power_size : (k : ℕ) → k ≤ 15 → 10 ^ k ≤ 10 ^ 15
power_size k h = pow-le-pow_right (omega arith) h

pub raised_size : (z : ℤ) (k : ℕ) → InCap z → k ≤ 15 → unsigned_abs (z *ℤ pos (10 ^ k)) ≤ 10 ^ 33
raised_size z k p h =
    let m : unsigned_abs z * 10 ^ k ≤ 10 ^ 18 * 10 ^ 15 = mul-le-mul p (power_size k h) in
    omega (arith, unsigned_abs-mul z (pos (10 ^ k)))

-- a result that is t stands for t
pub carried : {r t : ℤ} → r ≡ t → unsigned_abs t ≤ 10 ^ 38 → cast_signed w128 (cast_unsigned w128 r) ≡ t
carried {r} {t} e h = ap (λ z. cast_signed w128 (cast_unsigned w128 z)) e ∙ as_is t h

pub unit_is : {r : ℤ} (k : ℕ) → k ≤ 15 → r ≡ pos (10 ^ k) → cast_signed w128 (cast_unsigned w128 r) ≡ pos (10 ^ k)
unit_is k h e = let p = power_size k h in carried e (omega (arith, ints))

-- a product of two small numbers, as the code has it
pub product_at : {r : ℤ} (x y : ℤ) → InCap x → InCap y → r ≡ cast_signed w128 (cast_unsigned w128 x) *ℤ cast_signed w128 (cast_unsigned w128 y)
    → cast_signed w128 (cast_unsigned w128 r) ≡ x *ℤ y
product_at x y p q e =
    let size = product_size x y p q in
    carried (e ∙ (λ i. small_is x p i *ℤ small_is y q i)) (omega arith)

-- of four numbers of size at most n, the least and the greatest have such a size
pub record IsWithin (n : ℕ) (z : ℤ) : Type 0 where
  pub size : unsigned_abs z ≤ n

min_within : {n : ℕ} {x y : ℤ} → IsWithin n x → IsWithin n y → IsWithin n (int_min x y)
min_within p q = record { size = let s = p.size in let t = q.size in omega (arith, ints, clamps) }

max_within : {n : ℕ} {x y : ℤ} → IsWithin n x → IsWithin n y → IsWithin n (int_max x y)
max_within p q = record { size = let s = p.size in let t = q.size in omega (arith, ints, clamps) }

pub least_within : {n : ℕ} {p q r s : ℤ} → IsWithin n p → IsWithin n q → IsWithin n r → IsWithin n s → IsWithin n (least p q r s)
least_within a b c d = min_within (min_within a b) (min_within c d)

pub greatest_within : {n : ℕ} {p q r s : ℤ} → IsWithin n p → IsWithin n q → IsWithin n r → IsWithin n s → IsWithin n (greatest p q r s)
greatest_within a b c d = max_within (max_within a b) (max_within c d)

module _ (al ah bl bh : ℤ) (p : InCap al) (q : InCap ah) (r : InCap bl) (s : InCap bh) where
  product_within : (x y : ℤ) → InCap x → InCap y → IsWithin (10 ^ 36) (x *ℤ y)
  product_within x y h k = record { size = product_size x y h k }

  pub least_product_size : unsigned_abs (least (al *ℤ bl) (al *ℤ bh) (ah *ℤ bl) (ah *ℤ bh)) ≤ 10 ^ 36
  least_product_size = (least_within (product_within al bl p r) (product_within al bh p s) (product_within ah bl q r) (product_within ah bh q s)).size

  pub greatest_product_size : unsigned_abs (greatest (al *ℤ bl) (al *ℤ bh) (ah *ℤ bl) (ah *ℤ bh)) ≤ 10 ^ 36
  greatest_product_size = (greatest_within (product_within al bl p r) (product_within al bh p s) (product_within ah bl q r) (product_within ah bh q s)).size

-- a number times a power of ten, as the code has it
pub raised_at : {r : ℤ} (z : ℤ) (k : ℕ) → InCap z → k ≤ 15 → r ≡ cast_signed w128 (cast_unsigned w128 z) *ℤ pos (10 ^ k) → cast_signed w128 (cast_unsigned w128 r) ≡ z *ℤ pos (10 ^ k)
raised_at z k p h e = let size = raised_size z k p h in carried (e ∙ ap (λ x. x *ℤ pos (10 ^ k)) (small_is z p)) (omega arith)

-- a number of 64 bits, and a product of two
pub word_is : (z : ℤ) → InCap z → cast_signed w64 (cast_unsigned w64 z) ≡ z
word_is z h = to_z-of_z w64 z (fits_signed_from_abs w64 z (omega arith))

pub word_product_at : {r : ℤ} (x y : ℤ) → InCap x → InCap y → r ≡ cast_signed w64 (cast_unsigned w64 x) *ℤ cast_signed w64 (cast_unsigned w64 y)
    → cast_signed w128 (cast_unsigned w128 r) ≡ x *ℤ y
word_product_at x y p q e =
    let size = product_size x y p q in
    carried (e ∙ (λ i. word_is x p i *ℤ word_is y q i)) (omega arith)

-- a number handed on in 64 bits
pub short_at : {r : ℤ} (z : ℤ) → InCap z → r ≡ cast_signed w128 (cast_unsigned w128 z) → cast_signed w64 (cast_unsigned w64 r) ≡ z
short_at z h e = ap (λ y. cast_signed w64 (cast_unsigned w64 y)) (e ∙ small_is z h) ∙ word_is z h

pub widened_at : {r : ℤ} (z : ℤ) → InCap z → r ≡ cast_signed w128 (cast_unsigned w128 z) → cast_signed w128 (cast_unsigned w128 (cast_signed w64 (cast_unsigned w64 r))) ≡ z
widened_at z h e = ap (λ y. cast_signed w128 (cast_unsigned w128 y)) (short_at z h e) ∙ small_is z h
