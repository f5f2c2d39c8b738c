-- Past how many coefficients of the even terms, and past how many values of their polynomial, each is zero.
use Rattle.std.proofs.Common.{◌≡◌, ℕ, zero, suc, ◌≤◌, ◌+◌, List, [], ◌∷◌, refl, arith, inl, inr}
use Rattle.std.specs.Prelude.{pos, slice_index_or}
use Rattle.std.proofs.lemmas.Bool.{cases_lt}
use Rattle.enclose.specs.Zeros.{single}
use Rattle.fixdec.specs.Ends.{Ends}
use Rattle.fixdec.specs.Operations.{Operations}
use Rattle.fixdec.specs.declared.step.Step.TheVariants.{Val}
use Rattle.sagform.specs.Used.{AreZeroFrom, taken_over, zero_of}

-- a value is its coefficient where no later one is in use, by the number i of the first
abbrev pub AreTaken : {A : Type 0} → ℕ → ℕ → List A → List A → Type 0
AreTaken used i [] [] = Unit {0}
AreTaken used i (v ∷ vs) (b ∷ bs) = (used ≤ suc i → Val v ≡ Val b) × AreTaken used (suc i) vs bs
AreTaken used i vs bs = ⊥

module _ {A : Type 0} (z : A) (used : ℕ) where
  taken_each : (i : ℕ) (vs bs : List A) → AreTaken used i vs bs → ((j : ℕ) → used ≤ i + j → slice_index_or bs j z ≡ z)
      → (j : ℕ) → used ≤ i + j → slice_index_or vs j z ≡ z
  taken_each i [] [] t h j p = refl
  taken_each i [] (b ∷ bs) t h j p = absurd t
  taken_each i (v ∷ vs) [] t h j p = absurd t
  taken_each i (v ∷ vs) (b ∷ bs) t h zero p = taken_over (t.0 (omega arith)) (h zero p)
  taken_each i (v ∷ vs) (b ∷ bs) t h (suc j) p = taken_each (suc i) vs bs t.1 (λ k q. h (suc k) (omega arith)) j (omega arith)

-- so where coefficients are zero, the values are
pub values_zero : {A : Type 0} (o : Operations A) (used : ℕ) (vs bs : List A) → AreTaken used 0 vs bs → AreZeroFrom o used bs → AreZeroFrom o used vs
values_zero o used vs bs t h =
    record { each = λ j p. taken_each (zero_of o) used 0 vs bs t (λ k q. h.each k (omega arith)) j (omega arith) }

-- ---- intervals
-- each interval from the nth on is that of 0, where the first is the 0th
pub record AreNoneFrom (n : ℕ) (bs : List Ends) : Type 0 where
  pub each : (i : ℕ) → n ≤ i → slice_index_or bs i (single (pos 0)) ≡ single (pos 0)

-- one more, from the end down
pub none_before : (bs : List Ends) (n m : ℕ) → m + 1 ≡ n → AreNoneFrom n bs → slice_index_or bs m (single (pos 0)) ≡ single (pos 0) → AreNoneFrom m bs
none_before bs n m e h z = record {
  each = λ i p. elim (cases_lt m i) [
    | inl l ↦ h.each i (omega arith)
    | inr l ↦ (let same : i ≡ m = omega arith in rw same z)
  ];
}
