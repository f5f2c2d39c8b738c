-- A mantissa with one more digit.
use Rattle.std.proofs.Common.{◌≡◌, ℕ, suc, ◌+◌, ◌*◌, ◌-◌, ◌^◌, ◌<◌, ◌≤◌, false, List, [], ◌∷◌, ◌++◌, length, refl, sym, ap, ◌∙◌, arith, inl, inr, length-append}
use Rattle.std.proofs.Math.Nat.{pow-succ', one-le-pow, mul-le-mul_right}
use Rattle.std.proofs.lemmas.Bool.{cases_lt}
use Rattle.std.proofs.lemmas.Nat.{pow-add}
use Rattle.std.specs.Prelude.{◌==◌}
use Rattle.fixdec.specs.Word.{IsDigit, without_leading, without_trailing, number}
use Rattle.exactdec.specs.Mantissas.{IsKeptOf}
use Rattle.exactdec.proofs.Digits.{leading-none, leading-some, leading-other, trailing-zero, trailing-other, number-push, number-trailing}

pub nil_from_length : (ds : List ℕ) → length ds ≡ 0 → ds ≡ []
nil_from_length [] h = refl
nil_from_length (d ∷ ds) h = absurd (omega arith)

push_other : (ds : List ℕ) (digit : ℕ) → (digit == 48) ≡ false → without_leading (ds ++ digit ∷ []) ≡ without_leading ds ++ digit ∷ []
push_other ds digit other = elim (cases_lt 0 (length (without_leading ds))) [
  | inl l ↦ leading-some ds (digit ∷ []) l
  | inr l ↦
      let none : length (without_leading ds) ≡ 0 = omega arith in
      leading-none ds (digit ∷ []) none ∙ leading-other digit [] other ∙ ap (λ (s : List ℕ). s ++ digit ∷ []) (sym (nil_from_length (without_leading ds) none))
]

shifted : (value k : ℕ) → value * 10 ^ (k + 1) ≡ 10 * (value * 10 ^ k)
shifted value k = let e : k + 1 ≡ suc k = omega arith in ap (λ (j : ℕ). value * 10 ^ j) e ∙ ap (λ (w : ℕ). value * w) (pow-succ' 10 k) ∙ omega arith

-- no digit gives nothing
pub kept_of_none : IsKeptOf 0 0 0 []
unfolding without_trailing
kept_of_none = record { seen_is = refl; kept_is = refl; value_is = λ l. refl }

-- a zero in front
pub kept_of_leading : (value kept seen : ℕ) (ds : List ℕ) → seen ≡ 0 → IsKeptOf value kept seen ds → IsKeptOf value kept seen (ds ++ 48 ∷ [])
kept_of_leading value kept seen ds z h =
    let none : length (without_leading ds) ≡ 0 = sym h.seen_is ∙ z in
    let e : without_leading (ds ++ 48 ∷ []) ≡ without_leading ds = leading-none ds (48 ∷ []) none ∙ sym (nil_from_length (without_leading ds) none) in
    record {
      seen_is = h.seen_is ∙ ap length (sym e);
      kept_is = h.kept_is ∙ ap (λ (s : List ℕ). length (without_trailing s)) (sym e);
      value_is = λ l. h.value_is l ∙ ap (λ (s : List ℕ). number (without_trailing s)) (sym e);
    }

-- a zero behind others
pub kept_of_trailing : (value kept seen : ℕ) (ds : List ℕ) → 0 < seen → IsKeptOf value kept seen ds → IsKeptOf value kept (seen + 1) (ds ++ 48 ∷ [])
kept_of_trailing value kept seen ds z h =
    let s = without_leading ds in
    let is = h.seen_is in
    let e : without_leading (ds ++ 48 ∷ []) ≡ s ++ 48 ∷ [] = leading-some ds (48 ∷ []) (omega arith) in
    let t : without_trailing (without_leading (ds ++ 48 ∷ [])) ≡ without_trailing s = ap without_trailing e ∙ trailing-zero s in
    record {
      seen_is = let l = ap length e ∙ length-append s (48 ∷ []) in omega arith;
      kept_is = h.kept_is ∙ ap length (sym t);
      value_is = λ l. h.value_is l ∙ ap number (sym t);
    }

-- another digit
pub kept_of_other : (value kept seen digit value' : ℕ) (ds : List ℕ) → (digit == 48) ≡ false → kept ≤ seen → (seen < 30 → value' ≡ value * 10 ^ (seen - kept + 1) + (digit - 48)) → IsKeptOf value kept seen ds → IsKeptOf value' (seen + 1) (seen + 1) (ds ++ digit ∷ [])
kept_of_other value kept seen digit value' ds other ordered step h =
    let s = without_leading ds in
    let e : without_leading (ds ++ digit ∷ []) ≡ s ++ digit ∷ [] = push_other ds digit other in
    let t : without_trailing (without_leading (ds ++ digit ∷ [])) ≡ s ++ digit ∷ [] = ap without_trailing e ∙ trailing-other s digit other in
    let l = length-append s (digit ∷ []) in
    let seen_is = h.seen_is in
    let kept_is = h.kept_is in
    record {
      seen_is = let k = ap length e in omega arith;
      kept_is = let k = ap length t in omega arith;
      value_is = λ b.
          let before : value ≡ number (without_trailing s) = h.value_is (omega arith) in
          let zeros : seen - kept ≡ length s - length (without_trailing s) = λ i. seen_is i - kept_is i in
          let all : number s ≡ value * 10 ^ (seen - kept) = number-trailing s ∙ (λ i. sym before i * 10 ^ (sym zeros i)) in
          let power : value * 10 ^ (seen - kept + 1) ≡ 10 * (value * 10 ^ (seen - kept)) = shifted value (seen - kept) in
          step (omega arith) ∙ (let sum : value * 10 ^ (seen - kept + 1) + (digit - 48) ≡ 10 * number s + (digit - 48) = omega arith in sum) ∙ sym (number-push s digit) ∙ ap number (sym t);
    }

-- a number of so many digits, with zeros and a last digit behind it
pub with_digit_below : (value kept seen digit : ℕ) → value < 10 ^ kept → kept ≤ seen → IsDigit digit → value * 10 ^ (seen - kept + 1) + (digit - 48) < 10 ^ (seen + 1)
with_digit_below value kept seen digit v o d =
    let high = d.high in
    let zeros = seen - kept in
    let power : 10 ^ (seen + 1) ≡ 10 ^ kept * 10 ^ (zeros + 1) = (let e : seen + 1 ≡ kept + (zeros + 1) = omega arith in ap (λ (j : ℕ). 10 ^ j) e) ∙ pow-add 10 kept (zeros + 1) in
    let tens : 10 ^ (zeros + 1) ≡ 10 * 10 ^ zeros = (let e : zeros + 1 ≡ suc zeros = omega arith in ap (λ (j : ℕ). 10 ^ j) e) ∙ pow-succ' 10 zeros in
    let one = one-le-pow zeros 10 (omega arith) in
    let most : (value + 1) * 10 ^ (zeros + 1) ≤ 10 ^ kept * 10 ^ (zeros + 1) = mul-le-mul_right (10 ^ (zeros + 1)) (omega arith) in
    omega arith
