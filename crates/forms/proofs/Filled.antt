-- Coefficients that are written one after another over zeros.
use Rattle.std.proofs.Common.{ℕ, ◌≡◌, ◌∙◌, ◌+◌, ◌≤◌, ◌<◌, List, length, get_or, set, take, replicate, refl, sym, ap, inl, inr, arith}
use Rattle.std.specs.Prelude.{ℤ, pos, ◌≢◌, unsigned_abs}
use Rattle.std.proofs.lemmas.Bool.{cases_lt}
use Rattle.std.proofs.lemmas.List.{ext_get_or, length-set, get_or-set_other}
use Rattle.std.proofs.lemmas.List.Sums.{sum_by_more, sum_by_more_le}
use Rattle.fixdec.specs.Form.{sizes}
use Rattle.forms.specs.Kept.{in_use}
use Rattle.forms.proofs.Lists.{each_more}
use Rattle.forms.proofs.Uses.{past_use, sum_in_use, use_in_use, use_step, use_zeros}

-- the first i of rs are written into out, used of them are in use, and size is the sum of their sizes
pub record IsFilled (rs out : List ℤ) (i used size : ℕ) : Type 0 where
  pub count : length out ≡ 32
  pub each : (k : ℕ) → k < i → get_or out k (pos 0) ≡ get_or rs k (pos 0)
  pub past : (k : ℕ) → i ≤ k → get_or out k (pos 0) ≡ pos 0
  pub used_is : used ≡ in_use (take i rs)
  pub size_is : size ≡ sizes (take i rs)

module _ (rs : List ℤ) (all : length rs ≡ 32) where
  pub filled_none : (out : List ℤ) → out ≡ replicate 32 (pos 0) → IsFilled rs out 0 0 0
  unfolding in_use
  filled_none out e = record {
    count = ap length e;
    each = λ k h. absurd (omega arith);
    past = λ k h. ap (λ (xs : List ℤ). get_or xs k (pos 0)) e ∙ past_use (replicate 32 (pos 0)) k (rw use_zeros (omega arith));
    used_is = refl;
    size_is = refl;
  }

  module _ (out : List ℤ) (i used size : ℕ) (filled : IsFilled rs out i used size) where
    -- the next one still fits
    pub filled_fits : i < 32 → size + unsigned_abs (get_or rs i (pos 0)) ≤ sizes rs
    filled_fits h = let s = filled.size_is in let m = sum_by_more_le unsigned_abs rs i (pos 0) (omega arith) in omega arith

    -- and is written
    pub filled_more : (next : ℕ) (k : ℤ) → i < 32 → k ≡ get_or rs i (pos 0) → (k ≢ pos 0 → next ≡ i + 1) → (k ≡ pos 0 → next ≡ used)
        → IsFilled rs (set out i k) (i + 1) next (size + unsigned_abs k)
    filled_more next k h e w n =
        let within : i < length out = (let c = filled.count in omega arith) in
        record {
          count = length-set out i k ∙ filled.count;
          each = each_more (λ j. get_or rs j (pos 0)) out i k within filled.each e;
          past = λ j p. get_or-set_other out i j k (pos 0) (omega arith) ∙ filled.past j (omega arith);
          used_is = use_step rs i used next k (omega arith) (sym e) w n filled.used_is;
          size_is = (λ j. filled.size_is j + unsigned_abs (e j)) ∙ sym (sum_by_more unsigned_abs rs i (pos 0) (omega arith));
        }

    -- where no more are in use, all are
    module _ (h : in_use rs ≤ i) where
      pub filled_is : out ≡ rs
      filled_is =
          ext_get_or (pos 0) out rs (filled.count ∙ sym all)
          (λ k l. elim (cases_lt k i) [
            | inl b ↦ filled.each k b
            | inr b ↦ filled.past k b ∙ sym (past_use rs k (omega arith))
          ])

      pub filled_used : used ≡ in_use out
      filled_used = filled.used_is ∙ use_in_use rs i h ∙ ap in_use (sym filled_is)

      pub filled_size : size ≡ sizes out
      filled_size = filled.size_is ∙ sum_in_use unsigned_abs rs i refl h ∙ ap sizes (sym filled_is)
