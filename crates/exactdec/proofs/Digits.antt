-- Digits, the zeros in front of them and behind them, and their number.
use Rattle.std.proofs.Common.{◌≡◌, ◌≢◌, ℕ, zero, suc, ◌+◌, ◌*◌, ◌-◌, ◌^◌, ◌<◌, ◌≤◌, true, false, List, [], ◌∷◌, ◌++◌, length, refl, sym, ap, ◌∙◌, arith, inl, inr, reverse, get_or}
use Rattle.std.proofs.Math.Nat.{pow-succ'}
use Rattle.std.proofs.lemmas.Bool.Decides.{eqb_tells}
use Rattle.std.proofs.lemmas.List.{reverse-append, reverse-reverse, length-reverse}
use Rattle.std.specs.Prelude.{◌==◌}
use Rattle.fixdec.specs.Word.{IsDigit, AreDigits, without_leading, without_trailing, number_after, number}

-- a digit in front that is 0 is dropped, and any other stays
leading-zero : (c : ℕ) (cs : List ℕ) → (c == 48) ≡ true → without_leading (c ∷ cs) ≡ without_leading cs
leading-zero c cs h = rw h

pub leading-other : (c : ℕ) (cs : List ℕ) → (c == 48) ≡ false → without_leading (c ∷ cs) ≡ c ∷ cs
leading-other c cs h = rw h

pub length-leading : (ds : List ℕ) → length (without_leading ds) ≤ length ds
length-leading [] = omega arith
length-leading (c ∷ cs) = elim (eqb_tells c 48) [
  | inl t ↦ let e = ap length (leading-zero c cs t.0) in omega (arith, length-leading cs)
  | inr t ↦ let e = ap length (leading-other c cs t.0) in omega arith
]

-- more digits behind zeros alone, and behind others
pub leading-none : (ds more : List ℕ) → length (without_leading ds) ≡ 0 → without_leading (ds ++ more) ≡ without_leading more
leading-none [] more h = refl
leading-none (c ∷ cs) more h = elim (eqb_tells c 48) [
  | inl t ↦ leading-zero c (cs ++ more) t.0 ∙ leading-none cs more (sym (ap length (leading-zero c cs t.0)) ∙ h)
  | inr t ↦ let e = ap length (leading-other c cs t.0) in absurd (omega arith)
]

pub leading-some : (ds more : List ℕ) → 0 < length (without_leading ds) → without_leading (ds ++ more) ≡ without_leading ds ++ more
leading-some [] more h = absurd (omega arith)
leading-some (c ∷ cs) more h = elim (eqb_tells c 48) [
  | inl t ↦ leading-zero c (cs ++ more) t.0 ∙ leading-some cs more (rw (leading-zero c cs t.0) at h) ∙ ap (λ (xs : List ℕ). xs ++ more) (sym (leading-zero c cs t.0))
  | inr t ↦ leading-other c (cs ++ more) t.0 ∙ ap (λ (xs : List ℕ). xs ++ more) (sym (leading-other c cs t.0))
]

-- a digit behind others
pub trailing-zero : (ds : List ℕ) → without_trailing (ds ++ 48 ∷ []) ≡ without_trailing ds
unfolding without_trailing
trailing-zero ds = ap (λ (xs : List ℕ). reverse (without_leading xs)) (reverse-append ds (48 ∷ []))

pub trailing-other : (ds : List ℕ) (c : ℕ) → (c == 48) ≡ false → without_trailing (ds ++ c ∷ []) ≡ ds ++ c ∷ []
unfolding without_trailing
trailing-other ds c h =
    ap (λ (xs : List ℕ). reverse (without_leading xs)) (reverse-append ds (c ∷ []))
    ∙ ap reverse (leading-other c (reverse ds) h)
    ∙ ap reverse (sym (reverse-append ds (c ∷ [])))
    ∙ reverse-reverse (ds ++ c ∷ [])

number_after-push : (n : ℕ) (ds : List ℕ) (c : ℕ) → number_after n (ds ++ c ∷ []) ≡ 10 * number_after n ds + (c - 48)
number_after-push n [] c = refl
number_after-push n (d ∷ ds) c = number_after-push (10 * n + (d - 48)) ds c

pub number-push : (ds : List ℕ) (c : ℕ) → number (ds ++ c ∷ []) ≡ 10 * number ds + (c - 48)
number-push ds c = number_after-push 0 ds c

back : (c : ℕ) (cs : List ℕ) → reverse (c ∷ cs) ≡ reverse cs ++ c ∷ []
back c cs = reverse-append (c ∷ []) cs

one_more_zero : (n m len l : ℕ) → l ≤ len → n ≡ m * 10 ^ (len - l) → 10 * n ≡ m * 10 ^ (suc len - l)
one_more_zero n m len l h e =
    let step : suc len - l ≡ suc (len - l) = omega arith in
    let power = ap (λ (j : ℕ). m * 10 ^ j) step ∙ ap (λ (w : ℕ). m * w) (pow-succ' 10 (len - l)) in
    omega arith

-- the number of digits that are written backwards, and of those without the zeros
number_back : (rs : List ℕ) → number (reverse rs) ≡ number (reverse (without_leading rs)) * 10 ^ (length rs - length (without_leading rs))
number_back [] = refl
number_back (c ∷ cs) = elim (eqb_tells c 48) [
  | inl t ↦
      let digit : c - 48 ≡ 0 = omega (arith, t.1) in
      let push = ap number (back c cs) ∙ number-push (reverse cs) c in
      let step = one_more_zero _ _ (length cs) (length (without_leading cs)) (length-leading cs) (number_back cs) in
      push ∙ (let e : 10 * number (reverse cs) + (c - 48) ≡ 10 * number (reverse cs) = omega arith in e) ∙ step
      ∙ ap (λ (xs : List ℕ). number (reverse xs) * 10 ^ (suc (length cs) - length xs)) (sym (leading-zero c cs t.0))
  | inr t ↦
      let none : suc (length cs) - suc (length cs) ≡ 0 = omega arith in
      sym (ap (λ (xs : List ℕ). number (reverse xs) * 10 ^ (suc (length cs) - length xs)) (leading-other c cs t.0) ∙ ap (λ (j : ℕ). number (reverse (c ∷ cs)) * 10 ^ j) none ∙ omega arith)
]

-- the zeros at the end make a power of ten
pub number-trailing : (ds : List ℕ) → number ds ≡ number (without_trailing ds) * 10 ^ (length ds - length (without_trailing ds))
unfolding without_trailing
number-trailing ds =
    let twice = reverse-reverse ds in
    let long = length-reverse ds in
    let short = length-reverse (without_leading (reverse ds)) in
    ap number (sym twice) ∙ number_back (reverse ds)
    ∙ (λ i. number (reverse (without_leading (reverse ds))) * 10 ^ (long i - sym short i))

-- zeros in front count for nothing
pub number-leading : (ds : List ℕ) → number ds ≡ number (without_leading ds)
number-leading [] = refl
number-leading (c ∷ cs) = elim (eqb_tells c 48) [
  | inl t ↦
      let digit : 10 * 0 + (c - 48) ≡ 0 = omega (arith, t.1) in
      ap (λ (n : ℕ). number_after n cs) digit ∙ number-leading cs ∙ ap number (sym (leading-zero c cs t.0))
  | inr t ↦ ap number (sym (leading-other c cs t.0))
]

pub length-trailing : (ds : List ℕ) → length (without_trailing ds) ≤ length ds
unfolding without_trailing
length-trailing ds = omega (arith, length-reverse (without_leading (reverse ds)), length-reverse ds, length-leading (reverse ds))

pub other_digit : (c : ℕ) → c ≢ 48 → (c == 48) ≡ false
other_digit c h = elim (eqb_tells c 48) [ inl t ↦ absurd (h t.1) | inr t ↦ t.0 ]

-- a digit at a place
pub digit_at : (ds : List ℕ) (i : ℕ) → AreDigits ds → i < length ds → IsDigit (get_or ds i 0)
digit_at [] i d h = absurd (omega arith)
digit_at (c ∷ cs) zero d h = d.0
digit_at (c ∷ cs) (suc i) d h = digit_at cs i d.1 (omega arith)

positive_factor : (a b : ℕ) → 0 < a * b → 0 < a
positive_factor zero b h = absurd (omega arith)
positive_factor (suc a) b h = omega arith

number_after_from : (n : ℕ) (ds : List ℕ) → n ≤ number_after n ds
number_after_from n [] = omega arith
number_after_from n (d ∷ ds) = omega (arith, number_after_from (10 * n + (d - 48)) ds)

-- digits that begin with another than 0 write another number than 0
leading_above : (ds : List ℕ) → AreDigits ds → 0 < length (without_leading ds) → 0 < number (without_leading ds)
leading_above [] d h = absurd (omega arith)
leading_above (c ∷ cs) d h = elim (eqb_tells c 48) [
  | inl t ↦ rw (leading-zero c cs t.0) (leading_above cs d.1 (rw (leading-zero c cs t.0) at h))
  | inr t ↦ rw (leading-other c cs t.0) (let low = d.0.low in let ne = t.1 in omega (arith, number_after_from (10 * 0 + (c - 48)) cs))
]

-- the kept digits write another number than 0, where there are any
pub kept_above : (ds : List ℕ) → AreDigits ds → 0 < length (without_trailing (without_leading ds)) → 0 < number (without_trailing (without_leading ds))
kept_above ds d h =
    let s = without_leading ds in
    let above = leading_above ds d (omega (arith, length-trailing s)) in
    positive_factor (number (without_trailing s)) (10 ^ (length s - length (without_trailing s))) (let e = number-trailing s in omega arith)

pub digits_both : (xs ys : List ℕ) → AreDigits xs → AreDigits ys → AreDigits (xs ++ ys)
digits_both [] ys d e = e
digits_both (x ∷ xs) ys d e = (d.0, digits_both xs ys d.1 e)
