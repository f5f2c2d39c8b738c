-- What holds of every form, and of the coefficients that it keeps.
use Rattle.std.specs.Prelude.{ℕ, zero, suc, ◌≡◌, ◌+◌, ◌≤◌, ℤ, pos, ◌+ℤ◌, ◌*ℤ◌, List, [], ◌∷◌, length, unsigned_abs}
use Rattle.fixdec.specs.Form.{LinearForm, coefficientwise, dev}

-- 32 coefficients, and a centre whose size is within the cap together with the deviation
pub record IsKept (f : LinearForm) : Type 0 where
  pub count : length f.coefficients ≡ 32
  pub fits : unsigned_abs f.centre + dev f ≤ 1_000_000_000_000_000_000

-- how many coefficients are in use where k stands before others, of which n are
abbrev pub with_first : ℤ → ℕ → ℕ
with_first (pos zero) zero = zero
with_first k n = suc n

-- how many coefficients there are up to the last that isn't 0
unfoldable pub in_use : List ℤ → ℕ
in_use [] = 0
in_use (k ∷ ks) = with_first k (in_use ks)

-- x times the first and y times the second coefficient of each symbol
abbrev pub weighted : ℤ → List ℤ → ℤ → List ℤ → List ℤ
weighted x ks y ls = coefficientwise (λ k l. x *ℤ k +ℤ y *ℤ l) ks ls

-- what is kept of a form beside its value: the deviation, and how many coefficients are in use
pub record IsHeld (f : LinearForm) (deviation used : ℕ) : Type 0 where
  pub kept : IsKept f
  pub deviation_is : deviation ≡ dev f
  pub used_is : used ≡ in_use f.coefficients
