-- Where the parts of a word end: each is as long as it can be.
use Rattle.std.proofs.Common.{◌≡◌, ℕ, ◌<◌, Bool, true, false, List, [], ◌∷◌, ◌++◌, length, refl, sym, ap, ◌∙◌, subst, arith, ◌⊎◌, inl, inr}
use Rattle.std.proofs.lemmas.Bool.{leb-true, le-leb, lt-ltb, le-ltb, cases_Bool, cases_lt}
use Rattle.std.specs.Prelude.{◌&&◌, nat_le}
use Rattle.fixdec.specs.Word.{Parts, IsDigit, AreDigits, digits, spelling}
use Rattle.fixdec.specs.Reading.{is_digit, is_sign, is_point, is_mark, unit_front, unit_after, digits_front, digits_after, Split, mantissa_front, power_front, has_power, split}
use Rattle.exactdec.proofs.Splits.{unit_join, digits_join, spelling-append, split-power}

-- digits and their test
pub and_true : (a b : Bool) → (a && b) ≡ true → (a ≡ true) × (b ≡ true)
and_true true b h = (refl, h)
and_true false b h = absurd cc

digit_from_test : (c : ℕ) → is_digit c ≡ true → IsDigit c
digit_from_test c h =
    let both = and_true (nat_le 48 c) (nat_le c 57) h in
    record { low = leb-true 48 c both.0; high = leb-true c 57 both.1 }

pub test_from_digit : (c : ℕ) → IsDigit c → is_digit c ≡ true
test_from_digit c d = rw (le-leb 48 c d.low, le-leb c 57 d.high)

-- the digits in front are digits, and no digit follows them
pub front_digits : (w : List ℕ) → AreDigits (digits_front w)
front_digits [] = tt
front_digits (c ∷ cs) = elim (cases_Bool (is_digit c)) [ inl h ↦ rw h (digit_from_test c h, front_digits cs) | inr h ↦ rw h tt ]

pub front_stops : (w : List ℕ) → digits_front (digits_after w) ≡ []
front_stops [] = refl
front_stops (c ∷ cs) = elim (cases_Bool (is_digit c)) [ inl h ↦ rw h (front_stops cs) | inr h ↦ rw (h, h) ]

after_none : (r : List ℕ) → digits_front r ≡ [] → digits_after r ≡ r
after_none r h = ap (λ (xs : List ℕ). xs ++ digits_after r) (sym h) ∙ digits_join r

-- digits in front of what no digit begins
pub digits_cut : (ds r : List ℕ) → AreDigits ds → digits_front r ≡ [] → (digits_front (ds ++ r) ≡ ds) × (digits_after (ds ++ r) ≡ r)
digits_cut [] r d h = (h, after_none r h)
digits_cut (c ∷ cs) r d h =
    let t = test_from_digit c d.0 in
    let rest = digits_cut cs r d.1 h in
    (rw t (ap (λ (xs : List ℕ). c ∷ xs) rest.0), rw t rest.1)

-- s is a unit that passes the test, or nothing where the first unit of r doesn't
abbrev pub IsUnit : (ℕ → Bool) → List ℕ → List ℕ → Type 0
IsUnit is s r = ((s ≡ []) × (unit_front is r ≡ [])) ⊎ ((c : ℕ) × (s ≡ c ∷ []) × (is c ≡ true))

pub unit_is : (is : ℕ → Bool) (w : List ℕ) → IsUnit is (unit_front is w) (unit_after is w)
unit_is is [] = inl (refl, refl)
unit_is is (c ∷ cs) = elim (cases_Bool (is c)) [ inl h ↦ inr (c, rw h, h) | inr h ↦ inl (rw h, rw (h, h)) ]

unit_none : (is : ℕ → Bool) (r : List ℕ) → unit_front is r ≡ [] → unit_after is r ≡ r
unit_none is r h = ap (λ (xs : List ℕ). xs ++ unit_after is r) (sym h) ∙ unit_join is r

pub unit_cut : (is : ℕ → Bool) (s r : List ℕ) → IsUnit is s r → (unit_front is (s ++ r) ≡ s) × (unit_after is (s ++ r) ≡ r)
unit_cut is s r h = elim h [
  | inl n ↦ (ap (λ (xs : List ℕ). unit_front is (xs ++ r)) n.0 ∙ n.1 ∙ sym n.0, ap (λ (xs : List ℕ). unit_after is (xs ++ r)) n.0 ∙ unit_none is r n.1)
  | inr u ↦ (ap (λ (xs : List ℕ). unit_front is (xs ++ r)) u.1 ∙ rw u.2 (sym u.1), ap (λ (xs : List ℕ). unit_after is (xs ++ r)) u.1 ∙ rw u.2)
]

-- the parts of p's mantissa end where they do in front of r
pub record IsMantissaCut (p : Parts) (r : List ℕ) : Type 0 where
  pub sign : IsUnit is_sign p.sign (p.whole ++ (p.point ++ (p.part ++ r)))
  pub whole : AreDigits p.whole
  pub whole_end : digits_front (p.point ++ (p.part ++ r)) ≡ []
  pub point : IsUnit is_point p.point (p.part ++ r)
  pub part : AreDigits p.part
  pub part_end : digits_front r ≡ []

-- p without its exponent
abbrev pub mantissa : Parts → Parts
mantissa p = record p { mark = []; power_sign = []; power = [] }

pub mantissa_cut : (p : Parts) (r : List ℕ) → IsMantissaCut p r → mantissa_front (p.sign ++ (p.whole ++ (p.point ++ (p.part ++ r)))) ≡ record { parts = mantissa p; rest = r }
mantissa_cut p r h =
    let s = unit_cut is_sign p.sign (p.whole ++ (p.point ++ (p.part ++ r))) h.sign in
    let w = digits_cut p.whole (p.point ++ (p.part ++ r)) h.whole h.whole_end in
    let o = unit_cut is_point p.point (p.part ++ r) h.point in
    let d = digits_cut p.part r h.part h.part_end in
    let whole = ap digits_front s.1 ∙ w.0 in
    let after = ap digits_after s.1 ∙ w.1 in
    let point = ap (unit_front is_point) after ∙ o.0 in
    let behind = ap (unit_after is_point) after ∙ o.1 in
    let part = ap digits_front behind ∙ d.0 in
    let rest = ap digits_after behind ∙ d.1 in
    λ i. record {
      parts = record { sign = s.0 i; whole = whole i; point = point i; part = part i; mark = []; power_sign = []; power = [] };
      rest = rest i;
    }

-- and those that a word is taken apart into end so
pub mantissa_cuts : (w : List ℕ) → IsMantissaCut (mantissa_front w).parts (mantissa_front w).rest
mantissa_cuts w =
    let a = unit_after is_sign w in
    let b = digits_after a in
    let c = unit_after is_point b in
    let part = digits_join c in
    let point : unit_front is_point b ++ (digits_front c ++ digits_after c) ≡ b = ap (λ (xs : List ℕ). unit_front is_point b ++ xs) part ∙ unit_join is_point b in
    let whole : digits_front a ++ (unit_front is_point b ++ (digits_front c ++ digits_after c)) ≡ a = ap (λ (xs : List ℕ). digits_front a ++ xs) point ∙ digits_join a in
    record {
      sign = subst (λ (xs : List ℕ). IsUnit is_sign (unit_front is_sign w) xs) (sym whole) (unit_is is_sign w);
      whole = front_digits a;
      whole_end = ap digits_front point ∙ front_stops a;
      point = subst (λ (xs : List ℕ). IsUnit is_point (unit_front is_point b) xs) (sym part) (unit_is is_point b);
      part = front_digits c;
      part_end = front_stops c;
    }

-- no exponent
pub record IsMantissaAlone (p : Parts) : Type 0 where
  pub mark : p.mark ≡ []
  pub sign : p.power_sign ≡ []
  pub power : p.power ≡ []

-- no digits
pub record IsBareCut (p : Parts) (r : List ℕ) : Type 0 where
  pub alone : IsMantissaAlone p
  pub cut : IsMantissaCut p r
  pub none : length (digits p) ≡ 0

-- digits, and no mark behind them
pub record IsPlainCut (p : Parts) (r : List ℕ) : Type 0 where
  pub alone : IsMantissaAlone p
  pub cut : IsMantissaCut p r
  pub some : 0 < length (digits p)
  pub end : unit_front is_mark r ≡ []

-- digits, a mark, and what of an exponent there is
pub record IsPowerCut (p : Parts) (r : List ℕ) : Type 0 where
  pub cut : IsMantissaCut p (p.mark ++ (p.power_sign ++ (p.power ++ r)))
  pub some : 0 < length (digits p)
  pub marked : (c : ℕ) × (p.mark ≡ c ∷ []) × (is_mark c ≡ true)
  pub sign : IsUnit is_sign p.power_sign (p.power ++ r)
  pub power : AreDigits p.power
  pub power_end : digits_front r ≡ []

-- the parts end where they do in front of r
abbrev pub IsCut : Parts → List ℕ → Type 0
IsCut p r = IsBareCut p r ⊎ (IsPlainCut p r ⊎ IsPowerCut p r)

mantissa_alone : (p : Parts) → IsMantissaAlone p → mantissa p ≡ p
mantissa_alone p h i = record p { mark = sym h.mark i; power_sign = sym h.sign i; power = sym h.power i }

-- a mantissa alone and r
alone_join : (p : Parts) (r : List ℕ) → IsMantissaAlone p → spelling p ++ r ≡ p.sign ++ (p.whole ++ (p.point ++ (p.part ++ r)))
alone_join p r h = spelling-append p r ∙ (λ i. p.sign ++ (p.whole ++ (p.point ++ (p.part ++ (h.mark i ++ (h.sign i ++ (h.power i ++ r)))))))

front_of : (p : Parts) (r : List ℕ) → IsMantissaAlone p → IsMantissaCut p r → mantissa_front (spelling p ++ r) ≡ record { parts = p; rest = r }
front_of p r a h = ap mantissa_front (alone_join p r a) ∙ mantissa_cut p r h ∙ (λ i. record { parts = mantissa_alone p a i; rest = r })

-- a split without an exponent
split_without : (w : List ℕ) → has_power (mantissa_front w) ≡ false → split w ≡ mantissa_front w
unfolding split
split_without w h = rw h

bare_split : (p : Parts) (r : List ℕ) → IsBareCut p r → split (spelling p ++ r) ≡ record { parts = p; rest = r }
bare_split p r h =
    let front = front_of p r h.alone h.cut in
    let none : has_power (record { parts = p; rest = r }) ≡ false = rw (le-ltb 0 (length (digits p)) (let z = h.none in omega arith)) in
    split_without (spelling p ++ r) (ap has_power front ∙ none) ∙ front

plain_split : (p : Parts) (r : List ℕ) → IsPlainCut p r → split (spelling p ++ r) ≡ record { parts = p; rest = r }
plain_split p r h =
    let front = front_of p r h.alone h.cut in
    let none : has_power (record { parts = p; rest = r }) ≡ false = rw (h.end, lt-ltb 0 (length (digits p)) h.some) in
    split_without (spelling p ++ r) (ap has_power front ∙ none) ∙ front

power_split : (p : Parts) (r : List ℕ) → IsPowerCut p r → split (spelling p ++ r) ≡ record { parts = p; rest = r }
power_split p r h =
    let tail = p.mark ++ (p.power_sign ++ (p.power ++ r)) in
    let w = spelling p ++ r in
    let front : mantissa_front w ≡ record { parts = mantissa p; rest = tail } = ap mantissa_front (spelling-append p r) ∙ mantissa_cut p tail h.cut in
    let m = unit_cut is_mark p.mark (p.power_sign ++ (p.power ++ r)) (inr h.marked) in
    let s = unit_cut is_sign p.power_sign (p.power ++ r) h.sign in
    let d = digits_cut p.power r h.power h.power_end in
    let sign = ap (unit_front is_sign) m.1 ∙ s.0 in
    let after = ap (unit_after is_sign) m.1 ∙ s.1 in
    let power = ap digits_front after ∙ d.0 in
    let rest = ap digits_after after ∙ d.1 in
    let one : length p.mark ≡ 1 = ap length h.marked.1 in
    let marks : 0 < length (unit_front is_mark tail) = (let l = ap length m.0 in omega arith) in
    split-power w
    (subst (λ (x : Split). 0 < length (digits x.parts)) (sym front) h.some)
    (subst (λ (x : Split). 0 < length (unit_front is_mark x.rest)) (sym front) marks)
    ∙ ap (λ (x : Split). power_front x.parts x.rest) front
    ∙ (λ i. record { parts = record p { mark = m.0 i; power_sign = sign i; power = power i }; rest = rest i })

-- parts that end where they do are those that the word is taken apart into
pub cut_split : (p : Parts) (r : List ℕ) → IsCut p r → split (spelling p ++ r) ≡ record { parts = p; rest = r }
cut_split p r h = elim h [ inl b ↦ bare_split p r b | inr o ↦ elim o [ inl q ↦ plain_split p r q | inr q ↦ power_split p r q ] ]

-- whether there is an exponent
power_cases : (s : Split) → ((has_power s ≡ true) × (0 < length (digits s.parts)) × (0 < length (unit_front is_mark s.rest)))
    ⊎ (((has_power s ≡ false) × (length (digits s.parts) ≡ 0)) ⊎ ((has_power s ≡ false) × (0 < length (digits s.parts)) × (length (unit_front is_mark s.rest) ≡ 0)))
power_cases s = elim (cases_lt 0 (length (digits s.parts))) [
  | inl h ↦ elim (cases_lt 0 (length (unit_front is_mark s.rest))) [
    | inl k ↦ inl (rw (lt-ltb 0 (length (digits s.parts)) h, lt-ltb 0 (length (unit_front is_mark s.rest)) k), h, k)
    | inr k ↦ inr (inr (rw (lt-ltb 0 (length (digits s.parts)) h, le-ltb 0 (length (unit_front is_mark s.rest)) k), h, omega arith))
  ]
  | inr h ↦ inr (inl (rw (le-ltb 0 (length (digits s.parts)) h), omega arith))
]

one_unit : (is : ℕ → Bool) (w : List ℕ) → 0 < length (unit_front is w) → (c : ℕ) × (unit_front is w ≡ c ∷ []) × (is c ≡ true)
one_unit is [] h = absurd (omega arith)
one_unit is (c ∷ cs) h = elim (cases_Bool (is c)) [ inl t ↦ (c, rw t, t) | inr t ↦ absurd (let e = rw t at h in omega arith) ]

no_unit : (xs : List ℕ) → length xs ≡ 0 → xs ≡ []
no_unit [] h = refl
no_unit (x ∷ xs) h = absurd (omega arith)

power_cut : (w : List ℕ) → 0 < length (digits (mantissa_front w).parts) → 0 < length (unit_front is_mark (mantissa_front w).rest)
    → IsPowerCut (power_front (mantissa_front w).parts (mantissa_front w).rest).parts (power_front (mantissa_front w).parts (mantissa_front w).rest).rest
power_cut w h k =
    let m = mantissa_front w in
    let cut = mantissa_cuts w in
    let r = m.rest in
    let a = unit_after is_mark r in
    let b = unit_after is_sign a in
    let power = digits_join b in
    let sign : unit_front is_sign a ++ (digits_front b ++ digits_after b) ≡ a = ap (λ (xs : List ℕ). unit_front is_sign a ++ xs) power ∙ unit_join is_sign a in
    let tail : unit_front is_mark r ++ (unit_front is_sign a ++ (digits_front b ++ digits_after b)) ≡ r = ap (λ (xs : List ℕ). unit_front is_mark r ++ xs) sign ∙ unit_join is_mark r in
    let p = (power_front m.parts r).parts in
    record {
      cut = subst (λ (xs : List ℕ). IsMantissaCut p xs) (sym tail) (record { sign = cut.sign; whole = cut.whole; whole_end = cut.whole_end; point = cut.point; part = cut.part; part_end = cut.part_end });
      some = h;
      marked = one_unit is_mark r k;
      sign = subst (λ (xs : List ℕ). IsUnit is_sign (unit_front is_sign a) xs) (sym power) (unit_is is_sign a);
      power = front_digits b;
      power_end = front_stops b;
    }

-- the parts of a word in front end where they do
pub split_cuts : (w : List ℕ) → IsCut (split w).parts (split w).rest
split_cuts w =
    let m = mantissa_front w in
    let cut = mantissa_cuts w in
    let alone : IsMantissaAlone m.parts = record { mark = refl; sign = refl; power = refl } in
    elim (power_cases m) [
      | inl h ↦ subst (λ (s : Split). IsCut s.parts s.rest) (sym (split-power w h.1 h.2)) (inr (inr (power_cut w h.1 h.2)))
      | inr o ↦ elim o [
        | inl h ↦ subst (λ (s : Split). IsCut s.parts s.rest) (sym (split_without w h.0)) (inl (record { alone = alone; cut = cut; none = h.1 }))
        | inr h ↦ subst (λ (s : Split). IsCut s.parts s.rest) (sym (split_without w h.0)) (inr (inl (record { alone = alone; cut = cut; some = h.1; end = no_unit (unit_front is_mark m.rest) h.2 })))
      ]
    ]
