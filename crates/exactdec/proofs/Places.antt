-- The place of a word outside the grammar.
use Rattle.std.proofs.Common.{◌≡◌, ℕ, ◌+◌, ◌-◌, ◌<◌, ◌≤◌, Bool, suc, List, [], ◌∷◌, ◌++◌, length, take, refl, sym, ap, ◌∙◌, subst, arith, inl, inr, append-nil, append_assoc, length-append}
use Rattle.std.proofs.lemmas.Bool.{cases_Bool, cases_lt}
use Rattle.std.proofs.Math.Seq.{take-append-add, take-append_seam}
use Rattle.fixdec.specs.Word.{Parts, IsDigit, IsGrammatical, IsWord, BeginsWord, IsPlace, spelling}
use Rattle.fixdec.specs.Reading.{is_digit, is_sign, is_point, is_mark, unit_front, digits_front, Split, split}
use Rattle.exactdec.proofs.Cuts.{IsUnit, IsMantissaCut, IsBareCut, IsPowerCut, IsCut, cut_split, split_cuts}
use Rattle.exactdec.proofs.Grammar.{split_of_grammar, sign_of_unit, point_of_unit, mark_of_unit, mantissa_of_cut, no_power_alone, power_of_cut}
use Rattle.exactdec.proofs.Mantissas.{nil_from_length}
use Rattle.exactdec.proofs.Splits.{split_join, length-split, spelling-append}

-- the first unit
first : List ℕ → List ℕ
first [] = []
first (c ∷ cs) = c ∷ []

first-append : (xs u v : List ℕ) → first u ≡ first v → first (xs ++ u) ≡ first (xs ++ v)
unfolding first
first-append [] u v h = h
first-append (x ∷ xs) u v h = refl

unit_by_first : (is : ℕ → Bool) (u : List ℕ) → unit_front is (first u) ≡ unit_front is u
unfolding first
unit_by_first is [] = refl
unit_by_first is (c ∷ cs) = refl

digits_by_first : (u : List ℕ) → digits_front u ≡ [] → digits_front (first u) ≡ []
unfolding first
digits_by_first [] h = refl
digits_by_first (c ∷ cs) h = elim (cases_Bool (is_digit c)) [ inl t ↦ absurd (let e = rw t at h in cc) | inr t ↦ rw t ]

digits_from_first : (u : List ℕ) → digits_front (first u) ≡ [] → digits_front u ≡ []
unfolding first
digits_from_first [] h = refl
digits_from_first (c ∷ cs) h = elim (cases_Bool (is_digit c)) [ inl t ↦ absurd (let e = rw t at h in cc) | inr t ↦ rw t ]

next_unit : (is : ℕ → Bool) (s u v : List ℕ) → first u ≡ first v → IsUnit is s u → IsUnit is s v
next_unit is s u v e h = elim h [ inl n ↦ inl (n.0, sym (unit_by_first is v) ∙ ap (unit_front is) (sym e) ∙ unit_by_first is u ∙ n.1) | inr o ↦ inr o ]

next_digits : (u v : List ℕ) → first u ≡ first v → digits_front u ≡ [] → digits_front v ≡ []
next_digits u v e h = digits_from_first v (ap digits_front (sym e) ∙ digits_by_first u h)

next_mantissa : (p : Parts) (u v : List ℕ) → first u ≡ first v → IsMantissaCut p u → IsMantissaCut p v
next_mantissa p u v e h =
    let part = first-append p.part u v e in
    let point = first-append p.point (p.part ++ u) (p.part ++ v) part in
    let whole = first-append p.whole (p.point ++ (p.part ++ u)) (p.point ++ (p.part ++ v)) point in
    record {
      sign = next_unit is_sign p.sign (p.whole ++ (p.point ++ (p.part ++ u))) (p.whole ++ (p.point ++ (p.part ++ v))) whole h.sign;
      whole = h.whole;
      whole_end = next_digits (p.point ++ (p.part ++ u)) (p.point ++ (p.part ++ v)) point h.whole_end;
      point = next_unit is_point p.point (p.part ++ u) (p.part ++ v) part h.point;
      part = h.part;
      part_end = next_digits u v e h.part_end;
    }

-- where the parts end depends on the next unit alone
next_cut : (p : Parts) (u v : List ℕ) → first u ≡ first v → IsCut p u → IsCut p v
next_cut p u v e h = elim h [
  | inl b ↦ inl (record { alone = b.alone; cut = next_mantissa p u v e b.cut; none = b.none })
  | inr o ↦ elim o [
    | inl q ↦ inr (inl (record { alone = q.alone; cut = next_mantissa p u v e q.cut; some = q.some; end = sym (unit_by_first is_mark v) ∙ ap (unit_front is_mark) (sym e) ∙ unit_by_first is_mark u ∙ q.end }))
    | inr q ↦
        let power = first-append p.power u v e in
        let sign = first-append p.power_sign (p.power ++ u) (p.power ++ v) power in
        let mark = first-append p.mark (p.power_sign ++ (p.power ++ u)) (p.power_sign ++ (p.power ++ v)) sign in
        inr (inr (record {
          cut = next_mantissa p (p.mark ++ (p.power_sign ++ (p.power ++ u))) (p.mark ++ (p.power_sign ++ (p.power ++ v))) mark q.cut;
          some = q.some;
          marked = q.marked;
          sign = next_unit is_sign p.power_sign (p.power ++ u) (p.power ++ v) power q.sign;
          power = q.power;
          power_end = next_digits u v e q.power_end;
        }))
  ]
]

zero_digit : IsDigit 48
zero_digit = record { low = omega arith; high = omega arith }

-- a sign and a point, or a sign alone, go on with a digit
bare_begins : (p : Parts) (r : List ℕ) → IsBareCut p r → BeginsWord (spelling p)
bare_begins p r h =
    let l = length-append p.whole p.part in
    let none = h.none in
    let whole = nil_from_length p.whole (omega arith) in
    let part = nil_from_length p.part (omega arith) in
    let alone : spelling p ≡ p.sign ++ p.point = (λ i. p.sign ++ (whole i ++ (p.point ++ (part i ++ (h.alone.mark i ++ (h.alone.sign i ++ h.alone.power i)))))) ∙ ap (λ (xs : List ℕ). p.sign ++ xs) (append-nil p.point) in
    let sign = sign_of_unit p.sign (p.whole ++ (p.point ++ (p.part ++ r))) h.cut.sign in
    elim (point_of_unit p.point (p.part ++ r) h.cut.point) [
      | inl n ↦ (
        48 ∷ [],
        (
          record { sign = p.sign; whole = 48 ∷ []; point = []; part = []; mark = []; power_sign = []; power = [] },
          record {
            grammatical = record {
              mantissa = record { sign = sign; whole = (zero_digit, tt); point = inl refl; part = tt; no_part = λ e. refl; digits = omega arith };
              power = inl (record { mark = refl; sign = refl; digits = refl });
            };
            spelled = ap (λ (xs : List ℕ). xs ++ 48 ∷ []) (alone ∙ ap (λ (xs : List ℕ). p.sign ++ xs) n ∙ append-nil p.sign);
          },
        ),
      )
      | inr o ↦ (
        48 ∷ [],
        (
          record { sign = p.sign; whole = []; point = 46 ∷ []; part = 48 ∷ []; mark = []; power_sign = []; power = [] },
          record {
            grammatical = record {
              mantissa = record { sign = sign; whole = tt; point = inr refl; part = (zero_digit, tt); no_part = λ e. absurd cc; digits = omega arith };
              power = inl (record { mark = refl; sign = refl; digits = refl });
            };
            spelled = ap (λ (xs : List ℕ). xs ++ 48 ∷ []) (alone ∙ ap (λ (xs : List ℕ). p.sign ++ xs) o) ∙ append_assoc p.sign (46 ∷ []) (48 ∷ []);
          },
        ),
      )
    ]

itself : (p : Parts) → IsGrammatical p → BeginsWord (spelling p)
itself p h = ([], (p, record { grammatical = h; spelled = append-nil (spelling p) }))

-- a mantissa and a mark go on with a digit
power_begins : (p : Parts) (r : List ℕ) → IsPowerCut p r → BeginsWord (spelling p)
power_begins p r h =
    let m = mantissa_of_cut p (p.mark ++ (p.power_sign ++ (p.power ++ r))) h.cut h.some in
    elim (cases_lt 0 (length p.power)) [
      | inl l ↦ itself p (record { mantissa = m; power = inr (power_of_cut p r h l) })
      | inr l ↦
          let none = nil_from_length p.power (omega arith) in
          let q = record p { power = 48 ∷ [] } in (
            48 ∷ [],
            (
              q,
              record {
                grammatical = record {
                  mantissa = record { sign = m.sign; whole = m.whole; point = m.point; part = m.part; no_part = m.no_part; digits = m.digits };
                  power = inr (record {
                    mark = mark_of_unit p.mark h.marked.0 h.marked.1 h.marked.2;
                    sign = sign_of_unit p.power_sign (p.power ++ r) h.sign;
                    digits = (zero_digit, tt);
                    some = omega arith;
                  });
                };
                spelled = spelling-append p (48 ∷ []) ∙ ap (λ (xs : List ℕ). p.sign ++ (p.whole ++ (p.point ++ (p.part ++ (p.mark ++ (p.power_sign ++ (xs ++ 48 ∷ []))))))) none;
              },
            ),
          )
    ]

-- the front that is taken apart begins a word
pub front_begins : (w : List ℕ) → BeginsWord (spelling (split w).parts)
front_begins w =
    let p = (split w).parts in
    let r = (split w).rest in
    elim (split_cuts w) [
      | inl b ↦ bare_begins p r b
      | inr o ↦ elim o [
        | inl q ↦ itself p (record { mantissa = mantissa_of_cut p r q.cut q.some; power = inl (no_power_alone p q.alone) })
        | inr q ↦ power_begins p r q
      ]
    ]

-- no word of the grammar begins with that front and the next unit
no_longer : (w : List ℕ) (c : ℕ) (r t : List ℕ) → (split w).rest ≡ c ∷ r → IsWord (spelling (split w).parts ++ c ∷ t) → ⊥
unfolding first
no_longer w c r t e h =
    let p = (split w).parts in
    let u = spelling p ++ c ∷ t in
    let cut = next_cut p (c ∷ r) (c ∷ t) refl (subst (λ (xs : List ℕ). IsCut p xs) e (split_cuts w)) in
    let one = ap (λ (s : Split). length s.rest) (sym (cut_split p (c ∷ t) cut) ∙ split_of_grammar u h.0 h.1) in
    absurd (omega arith)

-- a front of the word that is longer
longer_front : (f : List ℕ) (c : ℕ) (r : List ℕ) (m : ℕ) → length f < m → (t : List ℕ) × (take m (f ++ c ∷ r) ≡ f ++ c ∷ t)
longer_front f c r m h =
    let k = m - length f - 1 in
    let e : m ≡ length f + suc k = omega arith in
    (take k r, ap (λ (n : ℕ). take n (f ++ c ∷ r)) e ∙ take-append-add f (c ∷ r) (suc k))

some_rest : (xs : List ℕ) → 0 < length xs → (c : ℕ) × ((cs : List ℕ) × (xs ≡ c ∷ cs))
some_rest [] h = absurd (omega arith)
some_rest (x ∷ xs) h = (x, (xs, refl))

-- a longer front begins no word
no_word : (w : List ℕ) (m : ℕ) → length (spelling (split w).parts) < m → m ≤ length w → BeginsWord (take m w) → ⊥
no_word w m h l b =
    let f = spelling (split w).parts in
    let len = length-split w in
    let rest = some_rest (split w).rest (omega arith) in
    let longer = longer_front f rest.0 rest.1.0 m h in
    let front : take m w ≡ f ++ rest.0 ∷ longer.0 = ap (take m) (sym (split_join w) ∙ ap (λ (xs : List ℕ). f ++ xs) rest.1.1) ∙ longer.1 in
    let whole : take m w ++ b.0 ≡ f ++ rest.0 ∷ (longer.0 ++ b.0) = ap (λ (xs : List ℕ). xs ++ b.0) front ∙ append_assoc f (rest.0 ∷ longer.0) b.0 in
    no_longer w rest.0 rest.1.0 (longer.0 ++ b.0) rest.1.1 (subst IsWord whole b.1)

-- the place is the length of the front that is taken apart
pub place_is : (w : List ℕ) → IsPlace w (length (spelling (split w).parts))
place_is w =
    let f = spelling (split w).parts in
    let len = length-split w in
    let front : take (length f) w ≡ f = ap (take (length f)) (sym (split_join w)) ∙ take-append_seam f (split w).rest in
    record {
      within = omega arith;
      begins = subst BeginsWord (sym front) (front_begins w);
      longest = λ m l b. elim (cases_lt (length f) m) [ inl h ↦ absurd (no_word w m h l b) | inr h ↦ h ];
    }
