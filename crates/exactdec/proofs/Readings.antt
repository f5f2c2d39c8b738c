-- The answer to a word.
use Rattle.std.proofs.Common.{◌≡◌, ℕ, ℤ, pos, ◌-◌, ◌*◌, ◌^◌, true, false, List, [], ◌∷◌, length, refl, sym, ap, ◌∙◌, subst, arith, inl, inr, Ok, Err, None}
use Rattle.std.proofs.Math.Nat.{zero-mul}
use Rattle.std.proofs.lemmas.Bool.{cases_Bool, cases_lt, lt-ltb, le-ltb, lt-leb, le-leb}
use Rattle.std.proofs.lemmas.Int.{ints}
use Rattle.std.specs.Prelude.{Result, IfOk, ◌+ℤ◌, ◌-ℤ◌, ◌*ℤ◌}
use Rattle.std.specs.Result.{result_ok}
use Rattle.fixdec.specs.Decimal.{Decimal, value, ten_power}
use Rattle.fixdec.specs.Frac.{whole, neg_Q, ◌≈◌}
use Rattle.fixdec.specs.Algebra.FracLaws.{≈_refl, ≈_trans}
use Rattle.fixdec.specs.Algebra.IntLaws.{ringℤ}
use Rattle.fixdec.specs.Algebra.Ring.{var, neg, ◌⊗◌}
use Rattle.fixdec.specs.Algebra.Linear.{linear, fact, no_fact, reads}
use Rattle.fixdec.specs.Algebra.PowerLaws.{whole-mul, value-times, value-zero}
use Rattle.fixdec.specs.Word.{Parts, AreDigits, Spells, spelling, digits, from_first, significant, kept_decimal, written_decimal, signed, number, IsReadable}
use Rattle.fixdec.specs.Reading.{is_readable, Split, split, is_whole, decimal_of}
use Rattle.exactdec.specs.Reading.{IsAnswer, judged, reading}
use Rattle.exactdec.specs.Stages.{bare, IsSplit, IsNotSplit, HasDigits}
use Rattle.exactdec.specs.declared.read.DecFault.{DecFault}
use Rattle.exactdec.specs.declared.read.DecFault.TheVariants.{NotNumber}
use Rattle.exactdec.proofs.Digits.{number-leading, number-trailing}
use Rattle.exactdec.proofs.Exponents.{sign_cases}
use Rattle.exactdec.proofs.Grammar.{split_of_grammar, whole_of_grammar, grammar_of_whole}
use Rattle.exactdec.proofs.Judged.{readable_from, kept-zero, kept-some, exponent}
use Rattle.exactdec.proofs.Mantissas.{nil_from_length}
use Rattle.exactdec.proofs.Places.{place_is}

not_readable : (e : ℤ) → is_readable e ≡ false → IsReadable e → ⊥
not_readable e h r = let low = r.low in let high = r.high in let yes : is_readable e ≡ true = grind (arith, ints) in absurd cc

-- the answer to the parts of a word of the grammar
judged_answer : (w : List ℕ) (p : Parts) → Spells w p → IsAnswer w (judged p)
unfolding judged
judged_answer w p h = elim (cases_lt 30 (length (significant p))) [
  | inl l ↦ rw (lt-ltb 30 (length (significant p)) l) (p, h, l)
  | inr l ↦ elim (cases_Bool (is_readable (kept_decimal p).exp)) [
    | inl r ↦ rw (le-ltb 30 (length (significant p)) l, r) (p, h, record { digits = l; exponent = readable_from (kept_decimal p).exp r; kept = refl })
    | inr r ↦ rw (le-ltb 30 (length (significant p)) l, r) (p, h, record { digits = l; exponent = not_readable (kept_decimal p).exp r })
  ]
]

pub reading-whole : (w : List ℕ) → is_whole (split w) ≡ true → reading w ≡ judged (split w).parts
unfolding reading
reading-whole w h = rw h

pub reading-other : (w : List ℕ) → is_whole (split w) ≡ false → reading w ≡ Err (NotNumber (length (spelling (split w).parts)))
unfolding reading
reading-other w h = rw h

-- what is read of a word is its answer
pub reading_answer : (w : List ℕ) → IsAnswer w (reading w)
reading_answer w = elim (cases_Bool (is_whole (split w))) [
  | inl h ↦ subst (λ (r : Result Decimal DecFault). IsAnswer w r) (sym (reading-whole w h)) (judged_answer w (split w).parts (grammar_of_whole w h))
  | inr h ↦ subst (λ (r : Result Decimal DecFault). IsAnswer w r) (sym (reading-other w h)) (record {
    outside = λ s. let yes = whole_of_grammar w s.0 s.1 in absurd cc;
    place = place_is w;
  })
]

signed-mul : (sign : List ℕ) (n m : ℕ) → signed sign (n * m) ≡ signed sign n *ℤ pos m
signed-mul sign n m = elim (sign_cases sign) [
  | inl s ↦ s (n * m) ∙ ap (λ (z : ℤ). z *ℤ pos m) (sym (s n))
  | inr s ↦ s (n * m) ∙ ringℤ (pos n ∷ pos m ∷ []) (neg (var 0 ⊗ var 1)) (neg (var 0) ⊗ var 1) tt ∙ ap (λ (z : ℤ). z *ℤ pos m) (sym (s n))
]

signed-zero : (sign : List ℕ) → signed sign 0 ≡ pos 0
signed-zero sign = elim (sign_cases sign) [ inl s ↦ s 0 | inr s ↦ s 0 ]

-- all digits, by those that are kept
number_is : (p : Parts) → number (digits p) ≡ number (significant p) * 10 ^ (length (from_first p) - length (significant p))
number_is p = number-leading (digits p) ∙ number-trailing (from_first p)

moved : (m e : ℤ) (z : ℕ) → value (record { mant = m; exp = e +ℤ pos z }) ≈ value (record { mant = m *ℤ pos (10 ^ z); exp = e })
moved m e z =
    linear (whole m ∷ whole (m *ℤ pos (10 ^ z)) ∷ ten_power e ∷ ten_power (e +ℤ pos z) ∷ whole (pos (10 ^ z)) ∷ []) _ _ (search reads depth 20 fits 4000)
    (fact (whole (pos 1)) (value-times m e (pos z)) (search reads depth 20 fits 4000)
    (fact (neg_Q (ten_power e)) (whole-mul m (pos (10 ^ z))) (search reads depth 20 fits 4000) no_fact)) tt

-- zeros change no value
pub value-kept : (p : Parts) → value (kept_decimal p) ≈ value (written_decimal p)
unfolding written_decimal
value-kept p = elim (cases_lt 0 (length (significant p))) [
  | inl h ↦
      let z = length (from_first p) - length (significant p) in
      let mant : signed p.sign (number (digits p)) ≡ signed p.sign (number (significant p)) *ℤ pos (10 ^ z) = ap (signed p.sign) (number_is p) ∙ signed-mul p.sign (number (significant p)) (10 ^ z) in
      subst (λ (d : Decimal). value d ≈ value (written_decimal p)) (sym (kept-some p h))
      (subst (λ (m : ℤ). value (record { mant = signed p.sign (number (significant p)); exp = exponent p }) ≈ value (record { mant = m; exp = signed p.power_sign (number p.power) -ℤ pos (length p.part) })) (sym mant)
      (moved (signed p.sign (number (significant p))) (signed p.power_sign (number p.power) -ℤ pos (length p.part)) z))
  | inr h ↦
      let none : length (significant p) ≡ 0 = omega arith in
      let empty = ap number (nil_from_length (significant p) none) in
      let zero : number (digits p) ≡ 0 = number_is p ∙ ap (λ (n : ℕ). n * 10 ^ (length (from_first p) - length (significant p))) empty ∙ zero-mul (10 ^ (length (from_first p) - length (significant p))) in
      let mant : signed p.sign (number (digits p)) ≡ pos 0 = ap (signed p.sign) zero ∙ signed-zero p.sign in
      subst (λ (d : Decimal). value d ≈ value (written_decimal p)) (sym (kept-zero p none))
      (≈_trans (value-zero (pos 0) (pos 0) (signed p.power_sign (number p.power) -ℤ pos (length p.part)) refl)
      (subst (λ (m : ℤ). value (record { mant = pos 0; exp = signed p.power_sign (number p.power) -ℤ pos (length p.part) }) ≈ value (record { mant = m; exp = signed p.power_sign (number p.power) -ℤ pos (length p.part) })) (sym mant) (≈_refl _)))
]

-- a decimal that is judged is the one that is kept
judged-ok : (p : Parts) (d : Decimal) → judged p ≡ Ok d → d ≡ kept_decimal p
unfolding judged
judged-ok p d h = elim (cases_lt 30 (length (significant p))) [
  | inl l ↦ absurd (let e = rw (lt-ltb 30 (length (significant p)) l) at h in cc)
  | inr l ↦ elim (cases_Bool (is_readable (kept_decimal p).exp)) [
    | inl r ↦ let e = rw (le-ltb 30 (length (significant p)) l, r) at h in cc
    | inr r ↦ absurd (let e = rw (le-ltb 30 (length (significant p)) l, r) at h in cc)
  ]
]

-- what is read of a word has its value
pub reading_value : (w : List ℕ) (p : Parts) (d : Decimal) → Spells w p → reading w ≡ Ok d → value d ≈ value (written_decimal p)
reading_value w p d h r =
    let parts : (split w).parts ≡ p = ap (λ (s : Split). s.parts) (split_of_grammar w p h) in
    let judged_is : judged p ≡ Ok d = ap judged (sym parts) ∙ sym (reading-whole w (whole_of_grammar w p h)) ∙ r in
    subst (λ (x : Decimal). value x ≈ value (written_decimal p)) (sym (judged-ok p d judged_is)) (value-kept p)

abbrev fault : DecFault → Result Decimal DecFault
fault e = Err e

-- a word that isn't taken apart
pub reading_fault : (w : List ℕ) (e : DecFault) → IsNotSplit w e → Err e ≡ reading w
reading_fault w e h = ap fault h.place ∙ sym (reading-other w h.whole)

judged-bare : (p : Parts) → judged (bare p) ≡ judged p
unfolding judged kept_decimal
judged-bare p = refl

-- a word that is
pub reading_parts : (w : List ℕ) (p : Parts) → IsSplit w p → judged p ≡ reading w
reading_parts w p h = ap judged h.parts ∙ judged-bare (split w).parts ∙ sym (reading-whole w h.whole)

-- its parts are digits
pub parts_digits : (w : List ℕ) (p : Parts) → IsSplit w p → HasDigits p
parts_digits w p h =
    let g = (grammar_of_whole w h.whole).grammatical in
    subst HasDigits (sym h.parts) (record {
      whole = g.mantissa.whole;
      part = g.mantissa.part;
      power = elim g.power [ inl n ↦ subst AreDigits (sym n.digits) tt | inr q ↦ q.digits ];
    })

-- the clauses of what is read
pub answer_of : (w : List ℕ) (r : Result Decimal DecFault) → r ≡ reading w → IsAnswer w r
answer_of w r h = subst (λ (x : Result Decimal DecFault). IsAnswer w x) (sym h) (reading_answer w)

pub value_of : (w : List ℕ) (r : Result Decimal DecFault) → r ≡ reading w → IfOk r (λ d. (p : Parts) → Spells w p → value d ≈ value (written_decimal p))
value_of w (Ok d) h = λ p s. reading_value w p d s (sym h)
value_of w (Err e) h = tt

judged_decimal : (w : List ℕ) → is_whole (split w) ≡ true → result_ok (judged (split w).parts) ≡ decimal_of w
unfolding judged decimal_of
judged_decimal w h =
    let p = (split w).parts in
    elim (cases_lt 30 (length (significant p))) [
      | inl l ↦ rw (h, lt-ltb 30 (length (significant p)) l, lt-leb (length (significant p)) 30 l)
      | inr l ↦ elim (cases_Bool (is_readable (kept_decimal p).exp)) [
        | inl r ↦ rw (h, le-ltb 30 (length (significant p)) l, le-leb (length (significant p)) 30 l, r)
        | inr r ↦ rw (h, le-ltb 30 (length (significant p)) l, le-leb (length (significant p)) 30 l, r)
      ]
    ]

no_decimal : (w : List ℕ) → is_whole (split w) ≡ false → None ≡ decimal_of w
unfolding decimal_of
no_decimal w h = rw h

pub reading_decimal : (w : List ℕ) → result_ok (reading w) ≡ decimal_of w
reading_decimal w = elim (cases_Bool (is_whole (split w))) [
  | inl h ↦ ap (λ (r : Result Decimal DecFault). result_ok r) (reading-whole w h) ∙ judged_decimal w h
  | inr h ↦ ap (λ (r : Result Decimal DecFault). result_ok r) (reading-other w h) ∙ no_decimal w h
]

pub decimal_from : (w : List ℕ) (r : Result Decimal DecFault) → r ≡ reading w → result_ok r ≡ decimal_of w
decimal_from w r h = ap (λ (x : Result Decimal DecFault). result_ok x) h ∙ reading_decimal w
