-- The words of the grammar are those that are taken apart with nothing missing and nothing left over.
use Rattle.std.proofs.Common.{◌≡◌, ℕ, ◌<◌, true, false, List, [], ◌∷◌, ◌++◌, length, refl, sym, ap, ◌∙◌, subst, arith, inl, inr, append-nil}
use Rattle.std.proofs.lemmas.Bool.{lt-ltb, ltb-true, eqb-true, eq-eqb}
use Rattle.std.proofs.lemmas.Bool.Decides.{eqb_tells}
use Rattle.std.specs.Prelude.{◌&&◌, ◌||◌, ◌==◌, nat_lt}
use Rattle.fixdec.specs.Word.{Parts, IsDigit, AreDigits, IsSign, IsPoint, IsMark, IsMantissa, IsPower, IsNoPower, IsGrammatical, Spells, digits, spelling}
use Rattle.fixdec.specs.Reading.{is_sign, is_point, is_mark, unit_front, digits_front, Split, split, is_whole}
use Rattle.exactdec.proofs.Cuts.{IsUnit, IsMantissaCut, IsMantissaAlone, IsPowerCut, IsCut, and_true, digits_cut, cut_split, split_cuts}
use Rattle.exactdec.proofs.Splits.{split_join, not_empty}
use Rattle.exactdec.proofs.Mantissas.{nil_from_length}

-- a digit passes no other test
digit_no_sign : (c : ℕ) → IsDigit c → is_sign c ≡ false
digit_no_sign c d =
    elim (eqb_tells c 43) [
      | inl e ↦ let l = d.low in let s = e.1 in absurd (omega arith)
      | inr e ↦ elim (eqb_tells c 45) [ inl f ↦ let l = d.low in let s = f.1 in absurd (omega arith) | inr f ↦ rw (e.0, f.0) ]
    ]

-- what may stand behind a mantissa: nothing, or a mark and more
pub record IsTail (t : List ℕ) : Type 0 where
  pub no_digit : digits_front t ≡ []
  pub no_sign : unit_front is_sign t ≡ []
  pub no_point : unit_front is_point t ≡ []

nothing : IsTail []
nothing = record { no_digit = refl; no_sign = refl; no_point = refl }

marked : (s more : List ℕ) → IsMark s → IsTail (s ++ more)
marked s more h = elim h [
  | inl e ↦ subst (λ (xs : List ℕ). IsTail (xs ++ more)) (sym e) (record { no_digit = refl; no_sign = refl; no_point = refl })
  | inr e ↦ subst (λ (xs : List ℕ). IsTail (xs ++ more)) (sym e) (record { no_digit = refl; no_sign = refl; no_point = refl })
]

sign_end : (whole point part t : List ℕ) → AreDigits whole → IsPoint point → (point ≡ [] → part ≡ []) → 0 < length (whole ++ part) → unit_front is_sign (whole ++ (point ++ (part ++ t))) ≡ []
sign_end [] point part t d o n l = elim o [
  | inl e ↦ let none = ap length (n e) in absurd (omega arith)
  | inr e ↦ ap (λ (xs : List ℕ). unit_front is_sign (xs ++ (part ++ t))) e
]
sign_end (c ∷ cs) point part t d o n l = rw (digit_no_sign c d.0)

sign_unit : (s r : List ℕ) → IsSign s → unit_front is_sign r ≡ [] → IsUnit is_sign s r
sign_unit s r h e = elim h [ inl n ↦ inl (n, e) | inr o ↦ elim o [ inl p ↦ inr (43, p, refl) | inr m ↦ inr (45, m, refl) ] ]

-- a mantissa of the grammar in front of what may stand behind it
mantissa_of_grammar : (p : Parts) (t : List ℕ) → IsMantissa p → IsTail t → IsMantissaCut p t
mantissa_of_grammar p t h e = record {
  sign = sign_unit p.sign (p.whole ++ (p.point ++ (p.part ++ t))) h.sign (sign_end p.whole p.point p.part t h.whole h.point h.no_part h.digits);
  whole = h.whole;
  whole_end = elim h.point [
    | inl n ↦ (λ i. digits_front (n i ++ (h.no_part n i ++ t))) ∙ e.no_digit
    | inr o ↦ ap (λ (xs : List ℕ). digits_front (xs ++ (p.part ++ t))) o
  ];
  point = elim h.point [
    | inl n ↦ inl (n, ap (λ (xs : List ℕ). unit_front is_point (xs ++ t)) (h.no_part n) ∙ e.no_point)
    | inr o ↦ inr (46, o, refl)
  ];
  part = h.part;
  part_end = e.no_digit;
}

mark_test : (s : List ℕ) → IsMark s → (c : ℕ) × (s ≡ c ∷ []) × (is_mark c ≡ true)
mark_test s h = elim h [ inl e ↦ (101, e, refl) | inr e ↦ (69, e, refl) ]

first_digit : (ds r : List ℕ) → AreDigits ds → 0 < length ds → unit_front is_sign (ds ++ r) ≡ []
first_digit [] r d h = absurd (omega arith)
first_digit (c ∷ cs) r d h = rw (digit_no_sign c d.0)

-- the parts of a word of the grammar end where they do
pub cut_of_grammar : (p : Parts) → IsGrammatical p → IsCut p []
cut_of_grammar p h = elim h.power [
  | inl n ↦ inr (inl (record {
    alone = record { mark = n.mark; sign = n.sign; power = n.digits };
    cut = mantissa_of_grammar p [] h.mantissa nothing;
    some = h.mantissa.digits;
    end = refl;
  }))
  | inr q ↦ inr (inr (record {
    cut = mantissa_of_grammar p (p.mark ++ (p.power_sign ++ (p.power ++ []))) h.mantissa (marked p.mark (p.power_sign ++ (p.power ++ [])) q.mark);
    some = h.mantissa.digits;
    marked = mark_test p.mark q.mark;
    sign = sign_unit p.power_sign (p.power ++ []) q.sign (first_digit p.power [] q.digits q.some);
    power = q.digits;
    power_end = refl;
  }))
]

-- a word of the grammar is taken apart into its parts
pub split_of_grammar : (w : List ℕ) (p : Parts) → Spells w p → split w ≡ record { parts = p; rest = [] }
split_of_grammar w p h = ap split (h.spelled ∙ sym (append-nil (spelling p))) ∙ cut_split p [] (cut_of_grammar p h.grammatical)

-- and nothing is missing
pub whole_of_grammar : (w : List ℕ) (p : Parts) → Spells w p → is_whole (split w) ≡ true
whole_of_grammar w p h =
    let some = lt-ltb 0 (length (digits p)) h.grammatical.mantissa.digits in
    ap is_whole (split_of_grammar w p h) ∙ elim h.grammatical.power [
      | inl n ↦ rw (some, eq-eqb (length p.mark) 0 (ap length n.mark))
      | inr q ↦
          let one = ap length (mark_test p.mark q.mark).1 in
          rw (some, not_empty p.mark (omega arith), lt-ltb 0 (length p.power) q.some)
    ]

pub sign_of_unit : (s r : List ℕ) → IsUnit is_sign s r → IsSign s
sign_of_unit s r h = elim h [
  | inl n ↦ inl n.0
  | inr u ↦ inr (elim (eqb_tells u.0 43) [
    | inl e ↦ inl (u.1 ∙ ap (λ (c : ℕ). c ∷ []) e.1)
    | inr e ↦ elim (eqb_tells u.0 45) [ inl f ↦ inr (u.1 ∙ ap (λ (c : ℕ). c ∷ []) f.1) | inr f ↦ absurd (let t = u.2 in let no = rw (e.0, f.0) at t in cc) ]
  ])
]

pub point_of_unit : (s r : List ℕ) → IsUnit is_point s r → IsPoint s
point_of_unit s r h = elim h [ inl n ↦ inl n.0 | inr u ↦ inr (u.1 ∙ ap (λ (c : ℕ). c ∷ []) (eqb-true u.0 46 u.2)) ]

pub mark_of_unit : (s : List ℕ) (c : ℕ) → s ≡ c ∷ [] → is_mark c ≡ true → IsMark s
mark_of_unit s c e t = elim (eqb_tells c 69) [
  | inl f ↦ inr (e ∙ ap (λ (x : ℕ). x ∷ []) f.1)
  | inr f ↦ elim (eqb_tells c 101) [ inl g ↦ inl (e ∙ ap (λ (x : ℕ). x ∷ []) g.1) | inr g ↦ absurd (let no = rw (f.0, g.0) at t in cc) ]
]

-- a mantissa that ends where it does and has digits is one of the grammar
pub mantissa_of_cut : (p : Parts) (r : List ℕ) → IsMantissaCut p r → 0 < length (digits p) → IsMantissa p
mantissa_of_cut p r h l = record {
  sign = sign_of_unit p.sign (p.whole ++ (p.point ++ (p.part ++ r))) h.sign;
  whole = h.whole;
  point = point_of_unit p.point (p.part ++ r) h.point;
  part = h.part;
  no_part = λ n. sym (digits_cut p.part r h.part h.part_end).0 ∙ ap (λ (xs : List ℕ). digits_front (xs ++ (p.part ++ r))) (sym n) ∙ h.whole_end;
  digits = l;
}

pub no_power_alone : (p : Parts) → IsMantissaAlone p → IsNoPower p
no_power_alone p h = record { mark = h.mark; sign = h.sign; digits = h.power }

pub power_of_cut : (p : Parts) (r : List ℕ) → IsPowerCut p r → 0 < length p.power → IsPower p
power_of_cut p r h l = record {
  mark = mark_of_unit p.mark h.marked.0 h.marked.1 h.marked.2;
  sign = sign_of_unit p.power_sign (p.power ++ r) h.sign;
  digits = h.power;
  some = l;
}

-- what is taken apart with nothing missing and nothing left over is a word of the grammar
pub grammar_of_whole : (w : List ℕ) → is_whole (split w) ≡ true → Spells w (split w).parts
grammar_of_whole w h =
    let s = split w in
    let p = s.parts in
    let both = and_true (nat_lt 0 (length (digits p)) && ((length p.mark == 0) || nat_lt 0 (length p.power))) (length s.rest == 0) h in
    let two = and_true (nat_lt 0 (length (digits p))) ((length p.mark == 0) || nat_lt 0 (length p.power)) both.0 in
    let some = ltb-true 0 (length (digits p)) two.0 in
    let rest = nil_from_length s.rest (eqb-true (length s.rest) 0 both.1) in
    let spelled : w ≡ spelling p = sym (split_join w) ∙ ap (λ (r : List ℕ). spelling p ++ r) rest ∙ append-nil (spelling p) in
    elim (split_cuts w) [
      | inl b ↦ let none = b.none in absurd (omega arith)
      | inr o ↦ elim o [
        | inl q ↦ record { grammatical = record { mantissa = mantissa_of_cut p s.rest q.cut some; power = inl (no_power_alone p q.alone) }; spelled = spelled }
        | inr q ↦
            let one = ap length q.marked.1 in
            let test = rw (not_empty p.mark (omega arith)) at two.1 in
            record {
              grammatical = record {
                mantissa = mantissa_of_cut p (p.mark ++ (p.power_sign ++ (p.power ++ s.rest))) q.cut some;
                power = inr (power_of_cut p s.rest q (ltb-true 0 (length p.power) test));
              };
              spelled = spelled;
            }
      ]
    ]

-- a word has its parts in one way
pub one_way : (w : List ℕ) (p q : Parts) → Spells w p → Spells w q → p ≡ q
one_way w p q h k = ap (λ (s : Split). s.parts) (sym (split_of_grammar w p h) ∙ split_of_grammar w q k)
