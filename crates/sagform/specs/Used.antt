-- How many coefficients of the even terms there are up to the last that isn't zero.
use Rattle.std.proofs.Common.{◌≡◌, ◌∙◌, ℕ, zero, suc, ◌≤◌, ◌<◌, ◌*◌, ◌^◌, ◌+◌, List, [], ◌∷◌, length, refl, ap, arith}
use Rattle.std.specs.Prelude.{ℤ, pos, negsuc, ◌*ℤ◌, ◌+ℤ◌, slice_index_or}
use Rattle.std.proofs.Math.Nat.{zero-div, pow-le-pow_right}
use Rattle.std.proofs.lemmas.Int.{ints}
use native.Mathlib.Nat.{mul-le-mul}
use Rattle.enclose.specs.EndLaws.{ends_kept}
use Rattle.enclose.specs.Zeros.{LeavesZero, single}
use Rattle.fixdec.specs.Decimal.{Decimal}
use Rattle.fixdec.specs.Ends.{InCap}
use Rattle.fixdec.specs.Operations.{Operations}
use Rattle.fixdec.specs.Scaled.{ceil_times, dec_ceil, dec_floor, dec_shifted, dec_span, floor_times}
use Rattle.fixdec.specs.Steps.{◌>>=◌}
use Rattle.fixdec.specs.declared.step.Step.{Step}
use Rattle.fixdec.specs.declared.step.Step.TheVariants.{Val, Empty, Lost}
use Rattle.lensmodel.specs.Rows.Constants.{decimal_row, whole_row}
use Rattle.sagform.specs.Polynomials.{weighted_row}

-- the value of zero
abbrev pub zero_of : {A : Type 0} → Operations A → A
zero_of o = o.of_span (single (pos 0))

-- each coefficient from the nth on is zero, where the first is the 0th
pub record AreZeroFrom {A : Type 0} (o : Operations A) (n : ℕ) (bs : List A) : Type 0 where
  pub each : (i : ℕ) → n ≤ i → slice_index_or bs i (zero_of o) ≡ zero_of o

-- each written coefficient from the nth on is zero, where the first is the 0th
pub record AreWrittenZeroFrom (n : ℕ) (coefficient : ℕ → Decimal) : Type 0 where
  pub each : (i : ℕ) → n ≤ i → i < 8 → (coefficient (suc i)).mant ≡ pos 0

-- ---- written zeros
floor_zero : (k : ℤ) → floor_times (pos 0) k ≡ pos 0
floor_zero (pos k) = omega (arith, ints)
floor_zero (negsuc k) = ap pos (zero-div (10 ^ suc k))

ceil_zero : (k : ℤ) → ceil_times (pos 0) k ≡ pos 0
ceil_zero (pos k) = omega (arith, ints)
ceil_zero (negsuc k) = rw (zero-div (10 ^ suc k)) refl

span_zero : (scale : ℕ) (e : ℤ) → dec_span scale (record { mant = pos 0; exp = e }) ≡ Val (single (pos 0))
unfolding dec_span dec_floor dec_ceil
span_zero scale e = rw (floor_zero (e +ℤ pos scale), ceil_zero (e +ℤ pos scale)) (ends_kept (pos 0) (pos 0) (omega arith) (omega arith))

val_same : {A : Type 0} {a b : A} → Val a ≡ Val b → a ≡ b
val_same {A} {a} e = ap (λ (r : Step A). value a r) e
  where
    value : {A : Type 0} → A → Step A → A
    value a (Val b) = b
    value a Empty = a
    value a (Lost w) = a

-- a value that is taken over
pub taken_over : {A : Type 0} {v b z : A} → Val v ≡ Val b → b ≡ z → v ≡ z
taken_over e h = val_same e ∙ h

module _ {A : Type 0} (o : Operations A) (scale : ℕ) where
  zero_row : (d : Decimal) → d.mant ≡ pos 0 → decimal_row o scale d ≡ Val (zero_of o)
  zero_row d h =
      let same : dec_span scale d ≡ Val (single (pos 0)) = (λ i. dec_span scale (record { mant = h i; exp = d.exp })) ∙ span_zero scale d.exp in
      ap (λ r. r >>= λ s. Val (o.of_span s)) same

  -- so is what such a coefficient stands for
  coefficient_zero : {b : A} (d : Decimal) (k : ℤ) → d.mant ≡ pos 0 → Val b ≡ decimal_row o scale (dec_shifted d k) → b ≡ zero_of o
  unfolding dec_shifted
  coefficient_zero d k h e = val_same (e ∙ zero_row (dec_shifted d k) h)

  -- the values of the coefficients from the ith on
  abbrev pub AreScaled : (ℕ → Decimal) → ℤ → ℕ → List A → Type 0
  AreScaled coefficient k i [] = Unit {0}
  AreScaled coefficient k i (b ∷ bs) = (Val b ≡ decimal_row o scale (dec_shifted (coefficient (suc i)) (k *ℤ pos (suc i)))) × AreScaled coefficient k (suc i) bs

  zeros_from : (n : ℕ) (coefficient : ℕ → Decimal) (k : ℤ) → AreWrittenZeroFrom n coefficient → (i : ℕ) (bs : List A) → length bs + i ≤ 8
      → AreScaled coefficient k i bs → (j : ℕ) → n ≤ i + j → slice_index_or bs j (zero_of o) ≡ zero_of o
  zeros_from n coefficient k h i [] m r j p = refl
  zeros_from n coefficient k h i (b ∷ bs) m r zero p = coefficient_zero (coefficient (suc i)) (k *ℤ pos (suc i)) (h.each i (omega arith) (omega arith)) r.0
  zeros_from n coefficient k h i (b ∷ bs) m r (suc j) p = zeros_from n coefficient k h (suc i) bs (omega arith) r.1 j (omega arith)

  pub zero_past : (n : ℕ) (coefficient : ℕ → Decimal) (k : ℤ) → AreWrittenZeroFrom n coefficient → (bs : List A) → length bs ≤ 8
      → AreScaled coefficient k 0 bs → AreZeroFrom o n bs
  zero_past n coefficient k h bs m r = record { each = λ j p. zeros_from n coefficient k h 0 bs (omega arith) r j (omega arith) }

  -- ---- the number of a coefficient times zero
  whole_is : (i : ℕ) → i ≤ 8 → scale ≤ 15 → whole_row o scale (pos i) ≡ Val (o.of_span (single (pos (i * 10 ^ scale))))
  unfolding dec_span dec_floor dec_ceil
  whole_is i h k =
      let same : 0 + scale ≡ scale = omega arith in
      let p : 10 ^ scale ≤ 10 ^ 15 = pow-le-pow_right (omega arith) k in
      let m : i * 10 ^ scale ≤ 8 * 10 ^ 15 = mul-le-mul h p in
      rw same (ap (λ r. r >>= λ s. Val (o.of_span s)) (ends_kept (pos (i * 10 ^ scale)) (pos (i * 10 ^ scale)) (omega arith) (omega arith)))

  module _ (fact : (z : ℤ) → InCap z → LeavesZero o (o.of_span (single z))) where
    pub weighted_none : (i : ℕ) (b : A) → i ≤ 8 → scale ≤ 15 → b ≡ zero_of o → Val b ≡ weighted_row o scale i b
    weighted_none i b h k e =
        let p : 10 ^ scale ≤ 10 ^ 15 = pow-le-pow_right (omega arith) k in
        let m : i * 10 ^ scale ≤ 8 * 10 ^ 15 = mul-le-mul h p in
        let f = fact (pos (i * 10 ^ scale)) (omega arith) in
        rw (whole_is i h k, e, f.times) refl
