-- Rounded quotients that are written one after another over zeros.
use Rattle.std.proofs.Common.{ℕ, ◌≡◌, ◌∙◌, ◌+◌, ◌≤◌, ◌<◌, Bool, cond, List, length, get_or, set, take, replicate, refl, sym, ap, arith}
use Rattle.std.specs.Prelude.{ℤ, pos, ◌≢◌, unsigned_abs}
use Rattle.std.proofs.lemmas.List.{length-map, get_or-map}
use Rattle.std.proofs.lemmas.List.Sums.{sum_by_more, sum_by_more_le}
use Rattle.fixdec.specs.Form.{sizes, quotients, has_remainder, remainders}
use Rattle.fixdec.specs.Rounding.{floor}
use Rattle.forms.specs.Kept.{in_use}
use Rattle.forms.proofs.Filled.{IsFilled, filled_none, filled_fits, filled_more, filled_is, filled_used, filled_size}
use Rattle.forms.proofs.Floors.{floor_zero, remainder_zero}
use Rattle.forms.proofs.Uses.{sum_in_use, use_map}

-- the quotients of the first i of ns are written into out, counted of them have a remainder, and total is the sum of the
-- sizes of those i
pub record IsRounding (d : ℤ) (ns out : List ℤ) (i used size counted total : ℕ) : Type 0 where
  pub filled : IsFilled (quotients d ns) out i used size
  pub cap : size ≤ 1_000_000_000_000_000_000
  pub counted_is : counted ≡ remainders d (take i ns)
  pub few : counted ≤ i
  pub total_is : total ≡ sizes (take i ns)

one_at_most : (b : Bool) → let n : ℕ = cond b 1 0 in n ≤ 1
one_at_most b = grind arith

module _ (d : ℤ) (ns : List ℤ) (all : length ns ≡ 32) where
  all_quotients : length (quotients d ns) ≡ 32
  all_quotients = length-map ns (λ n. floor n d) ∙ all

  quotient_at : (i : ℕ) → i < 32 → get_or (quotients d ns) i (pos 0) ≡ floor (get_or ns i (pos 0)) d
  quotient_at i h = get_or-map (λ n. floor n d) ns i (pos 0) (pos 0) (omega arith)

  pub rounding_none : (out : List ℤ) → out ≡ replicate 32 (pos 0) → IsRounding d ns out 0 0 0 0 0
  rounding_none out e = record {
    filled = filled_none (quotients d ns) all_quotients out e;
    cap = omega arith;
    counted_is = refl;
    few = omega arith;
    total_is = refl;
  }

  module _ (out : List ℤ) (i used size counted total : ℕ) (r : IsRounding d ns out i used size counted total) where
    -- where the next one doesn't fit, the sum of the sizes passes the cap
    pub rounding_lost : (q : ℤ) → i < 32 → q ≡ floor (get_or ns i (pos 0)) d → 1_000_000_000_000_000_000 < size + unsigned_abs q
        → 1_000_000_000_000_000_000 < sizes (quotients d ns)
    rounding_lost q h e l =
        let f = filled_fits (quotients d ns) all_quotients out i used size r.filled h in
        let s : unsigned_abs q ≡ unsigned_abs (get_or (quotients d ns) i (pos 0)) = ap unsigned_abs (e ∙ sym (quotient_at i h)) in
        omega arith

    pub rounding_fits : i < 32 → total + unsigned_abs (get_or ns i (pos 0)) ≤ sizes ns
    rounding_fits h = let s = r.total_is in let m = sum_by_more_le unsigned_abs ns i (pos 0) (omega arith) in omega arith

    pub rounding_more : (n k : ℤ) (next more : ℕ) → i < 32 → n ≡ get_or ns i (pos 0) → k ≡ floor n d → size + unsigned_abs k ≤ 1_000_000_000_000_000_000
        → (k ≢ pos 0 → next ≡ i + 1) → (k ≡ pos 0 → next ≡ used) → more ≡ counted + cond (has_remainder d n) 1 0
        → IsRounding d ns (set out i k) (i + 1) next (size + unsigned_abs k) more (total + unsigned_abs n)
    rounding_more n k next more h e q c w o m =
        let one = one_at_most (has_remainder d n) in
        let few = r.few in
        record {
          filled = filled_more (quotients d ns) all_quotients out i used size r.filled next k h
              (q ∙ ap (λ x. floor x d) e ∙ sym (quotient_at i h)) w o;
          cap = c;
          counted_is = m ∙ (λ j. r.counted_is j + cond (has_remainder d (e j)) 1 0)
              ∙ sym (sum_by_more (λ x. cond (has_remainder d x) 1 0) ns i (pos 0) (omega arith));
          few = omega arith;
          total_is = (λ j. r.total_is j + unsigned_abs (e j)) ∙ sym (sum_by_more unsigned_abs ns i (pos 0) (omega arith));
        }

    -- where no more are in use, all are
    module _ (h : in_use ns ≤ i) where
      past : in_use (quotients d ns) ≤ i
      past = use_map (λ n. floor n d) ns i (floor_zero d) h

      pub rounding_is : out ≡ quotients d ns
      rounding_is = filled_is (quotients d ns) all_quotients out i used size r.filled past

      pub rounding_used : used ≡ in_use out
      rounding_used = filled_used (quotients d ns) all_quotients out i used size r.filled past

      pub rounding_size : size ≡ sizes out
      rounding_size = filled_size (quotients d ns) all_quotients out i used size r.filled past

      pub rounding_counted : counted ≡ remainders d ns
      rounding_counted = r.counted_is ∙ sum_in_use (λ x. cond (has_remainder d x) 1 0) ns i (remainder_zero d) h

      pub rounding_total : total ≡ sizes ns
      rounding_total = r.total_is ∙ sum_in_use unsigned_abs ns i refl h
