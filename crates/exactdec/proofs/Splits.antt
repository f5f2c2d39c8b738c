-- A word and its parts in front.
use Rattle.std.proofs.Common.{◌≡◌, ℕ, ◌+◌, ◌-◌, ◌<◌, Bool, true, false, List, [], ◌∷◌, ◌++◌, length, refl, sym, ap, ◌∙◌, arith, length-append, append_assoc, inl, inr}
use Rattle.std.proofs.lemmas.Bool.{lt-ltb, le-ltb, ltb-true, ltb-false, eqb-true, cases_Bool}
use Rattle.std.proofs.lemmas.Bool.Decides.{eqb_tells}
use Rattle.std.specs.Prelude.{◌==◌, ◌&&◌, nat_lt}
use Rattle.fixdec.specs.Word.{Parts, digits, spelling}
use Rattle.fixdec.specs.Reading.{is_digit, is_sign, is_point, is_mark, unit_front, unit_after, digits_front, digits_after, Split, mantissa_front, power_front, has_power, split, is_whole}
use Rattle.exactdec.specs.Stages.{bare, IsSplit, IsNotSplit}
use Rattle.exactdec.specs.declared.read.DecFault.{DecFault}
use Rattle.exactdec.specs.declared.read.DecFault.TheVariants.{NotNumber}
use Rattle.exactdec.proofs.Mantissas.{nil_from_length}

pub unit_join : (is : ℕ → Bool) (w : List ℕ) → unit_front is w ++ unit_after is w ≡ w
unit_join is [] = refl
unit_join is (c ∷ cs) = elim (cases_Bool (is c)) [ inl h ↦ rw h | inr h ↦ rw h ]

pub digits_join : (w : List ℕ) → digits_front w ++ digits_after w ≡ w
digits_join [] = refl
digits_join (c ∷ cs) = elim (cases_Bool (is_digit c)) [ inl h ↦ rw h (ap (λ (xs : List ℕ). c ∷ xs) (digits_join cs)) | inr h ↦ rw h ]

-- the parts one after another, and what follows them
pub spelling-append : (p : Parts) (r : List ℕ) → spelling p ++ r ≡ p.sign ++ (p.whole ++ (p.point ++ (p.part ++ (p.mark ++ (p.power_sign ++ (p.power ++ r))))))
spelling-append p r = simp append_assoc

-- the front of a mantissa and what follows it are the word
pub mantissa_join : (w : List ℕ) → spelling (mantissa_front w).parts ++ (mantissa_front w).rest ≡ w
mantissa_join w =
    let a = unit_after is_sign w in
    let b = digits_after a in
    let c = unit_after is_point b in
    spelling-append (mantissa_front w).parts (mantissa_front w).rest
    ∙ ap (λ (xs : List ℕ). unit_front is_sign w ++ (digits_front a ++ (unit_front is_point b ++ xs))) (digits_join c)
    ∙ ap (λ (xs : List ℕ). unit_front is_sign w ++ (digits_front a ++ xs)) (unit_join is_point b)
    ∙ ap (λ (xs : List ℕ). unit_front is_sign w ++ xs) (digits_join a)
    ∙ unit_join is_sign w

-- so are those with an exponent
pub power_join : (w : List ℕ) → spelling (power_front (mantissa_front w).parts (mantissa_front w).rest).parts ++ (power_front (mantissa_front w).parts (mantissa_front w).rest).rest ≡ w
power_join w =
    let m = mantissa_front w in
    let r = m.rest in
    let a = unit_after is_mark r in
    let b = unit_after is_sign a in
    let p = m.parts in
    spelling-append (power_front p r).parts (power_front p r).rest
    ∙ ap (λ (xs : List ℕ). p.sign ++ (p.whole ++ (p.point ++ (p.part ++ (unit_front is_mark r ++ (unit_front is_sign a ++ xs)))))) (digits_join b)
    ∙ ap (λ (xs : List ℕ). p.sign ++ (p.whole ++ (p.point ++ (p.part ++ (unit_front is_mark r ++ xs))))) (unit_join is_sign a)
    ∙ ap (λ (xs : List ℕ). p.sign ++ (p.whole ++ (p.point ++ (p.part ++ xs)))) (unit_join is_mark r)
    ∙ sym (spelling-append p r)
    ∙ mantissa_join w

pub split_join : (w : List ℕ) → spelling (split w).parts ++ (split w).rest ≡ w
unfolding split
split_join w = elim (cases_Bool (has_power (mantissa_front w))) [ inl h ↦ rw h (power_join w) | inr h ↦ rw h (mantissa_join w) ]

pub length-split : (w : List ℕ) → length (spelling (split w).parts) + length (split w).rest ≡ length w
length-split w = sym (length-append (spelling (split w).parts) (split w).rest) ∙ ap length (split_join w)

-- no digits
pub split-none : (w : List ℕ) → length (digits (mantissa_front w).parts) ≡ 0 → (split w ≡ mantissa_front w) × (is_whole (split w) ≡ false)
unfolding split
split-none w h =
    let none = le-ltb 0 (length (digits (mantissa_front w).parts)) (omega arith) in
    (rw none, rw (none, none))

-- no mark behind digits
pub split-plain : (w : List ℕ) → 0 < length (digits (mantissa_front w).parts) → length (unit_front is_mark (mantissa_front w).rest) ≡ 0 → (split w ≡ mantissa_front w) × (is_whole (split w) ≡ (length (mantissa_front w).rest == 0))
unfolding split
split-plain w h m =
    let some = lt-ltb 0 (length (digits (mantissa_front w).parts)) h in
    let none = le-ltb 0 (length (unit_front is_mark (mantissa_front w).rest)) (omega arith) in
    (rw (some, none), rw (some, none, some))

-- a mark behind digits
pub split-power : (w : List ℕ) → 0 < length (digits (mantissa_front w).parts) → 0 < length (unit_front is_mark (mantissa_front w).rest) → split w ≡ power_front (mantissa_front w).parts (mantissa_front w).rest
unfolding split
split-power w h m =
    let some = lt-ltb 0 (length (digits (mantissa_front w).parts)) h in
    let mark = lt-ltb 0 (length (unit_front is_mark (mantissa_front w).rest)) m in
    rw (some, mark)

-- what is known of a mantissa in front
pub record IsFront (w sign whole part rest : List ℕ) : Type 0 where
  pub sign_is : sign ≡ (mantissa_front w).parts.sign
  pub whole_is : whole ≡ (mantissa_front w).parts.whole
  pub part_is : part ≡ (mantissa_front w).parts.part
  pub rest_is : rest ≡ (mantissa_front w).rest

digits_are : (w sign whole part rest : List ℕ) → IsFront w sign whole part rest → whole ++ part ≡ digits (mantissa_front w).parts
digits_are w sign whole part rest h i = h.whole_is i ++ h.part_is i

not_split : (w rest : List ℕ) (e : DecFault) → is_whole (split w) ≡ false → rest ≡ (split w).rest → e ≡ NotNumber (length w - length rest) → IsNotSplit w e
not_split w rest e h r n =
    let place : length w - length rest ≡ length (spelling (split w).parts) = (let l = ap length r in omega (arith, length-split w)) in
    record { whole = h; place = n ∙ ap NotNumber place }

pub none_fault : (w sign whole part rest : List ℕ) (e : DecFault) → IsFront w sign whole part rest → false ≡ nat_lt 0 (length (whole ++ part)) → e ≡ NotNumber (length w - length rest) → IsNotSplit w e
none_fault w sign whole part rest e h t n =
    let l = ap length (digits_are w sign whole part rest h) in
    let none = split-none w (let b = ltb-false 0 (length (whole ++ part)) (sym t) in omega arith) in
    not_split w rest e none.1 (h.rest_is ∙ ap (λ (s : Split). s.rest) (sym none.0)) n

some_digits : (w sign whole part rest : List ℕ) → IsFront w sign whole part rest → true ≡ nat_lt 0 (length (whole ++ part)) → 0 < length (digits (mantissa_front w).parts)
some_digits w sign whole part rest h t = let l = ap length (digits_are w sign whole part rest h) in let b = ltb-true 0 (length (whole ++ part)) (sym t) in omega arith

no_mark : (w sign whole part rest mark : List ℕ) → IsFront w sign whole part rest → mark ≡ unit_front is_mark rest → true ≡ (length mark == 0) → length (unit_front is_mark (mantissa_front w).rest) ≡ 0
no_mark w sign whole part rest mark h m t = ap length (sym (m ∙ ap (unit_front is_mark) h.rest_is)) ∙ eqb-true (length mark) 0 (sym t)

pub plain_fault : (w sign whole part rest mark : List ℕ) (e : DecFault) → IsFront w sign whole part rest → true ≡ nat_lt 0 (length (whole ++ part)) → mark ≡ unit_front is_mark rest → true ≡ (length mark == 0)
    → false ≡ (length rest == 0) → e ≡ NotNumber (length w - length rest) → IsNotSplit w e
plain_fault w sign whole part rest mark e h t m u r n =
    let plain = split-plain w (some_digits w sign whole part rest h t) (no_mark w sign whole part rest mark h m u) in
    not_split w rest e (plain.1 ∙ ap (λ (xs : List ℕ). length xs == 0) (sym h.rest_is) ∙ sym r) (h.rest_is ∙ ap (λ (s : Split). s.rest) (sym plain.0)) n

pub plain_found : (w sign whole part rest mark : List ℕ) → IsFront w sign whole part rest → true ≡ nat_lt 0 (length (whole ++ part)) → mark ≡ unit_front is_mark rest → true ≡ (length mark == 0)
    → true ≡ (length rest == 0) → IsSplit w (record { sign = sign; whole = whole; point = []; part = part; mark = []; power_sign = mark; power = mark })
plain_found w sign whole part rest mark h t m u r =
    let plain = split-plain w (some_digits w sign whole part rest h t) (no_mark w sign whole part rest mark h m u) in
    let none : mark ≡ [] = nil_from_length mark (eqb-true (length mark) 0 (sym u)) in
    record {
      whole = plain.1 ∙ ap (λ (xs : List ℕ). length xs == 0) (sym h.rest_is) ∙ sym r;
      parts = (λ i. record { sign = h.sign_is i; whole = h.whole_is i; point = []; part = h.part_is i; mark = []; power_sign = none i; power = none i }) ∙ ap (λ (s : Split). bare s.parts) (sym plain.0);
    }

-- what is known of an exponent behind a mantissa
pub record IsBack (rest mark after sign behind power end : List ℕ) : Type 0 where
  pub mark_is : mark ≡ unit_front is_mark rest
  pub after_is : after ≡ unit_after is_mark rest
  pub sign_is : sign ≡ unit_front is_sign after
  pub behind_is : behind ≡ unit_after is_sign after
  pub power_is : power ≡ digits_front behind
  pub end_is : end ≡ digits_after behind

-- the digits behind a mark and a sign, and what follows them
abbrev pub power_behind : List ℕ → List ℕ
power_behind rest = digits_front (unit_after is_sign (unit_after is_mark rest))

abbrev pub end_behind : List ℕ → List ℕ
end_behind rest = digits_after (unit_after is_sign (unit_after is_mark rest))

some_mark : (w sign whole part rest mark : List ℕ) → IsFront w sign whole part rest → mark ≡ unit_front is_mark rest → false ≡ (length mark == 0) → 0 < length (unit_front is_mark (mantissa_front w).rest)
some_mark w sign whole part rest mark h m t =
    let l = ap length (sym (m ∙ ap (unit_front is_mark) h.rest_is)) in
    elim (eqb_tells (length mark) 0) [ inl e ↦ absurd (let a = e.0 in cc) | inr e ↦ let ne = e.1 in omega arith ]

pub not_empty : (xs : List ℕ) → 0 < length xs → (length xs == 0) ≡ false
not_empty xs h = elim (eqb_tells (length xs) 0) [ inl e ↦ let z = e.1 in absurd (omega arith) | inr e ↦ e.0 ]

-- an exponent is whole where it has digits and nothing follows
whole-power : (w : List ℕ) → 0 < length (digits (mantissa_front w).parts) → 0 < length (unit_front is_mark (mantissa_front w).rest)
    → is_whole (split w) ≡ (nat_lt 0 (length (power_behind (mantissa_front w).rest)) && (length (end_behind (mantissa_front w).rest) == 0))
whole-power w h m =
    let some = lt-ltb 0 (length (digits (mantissa_front w).parts)) h in
    let mark = not_empty (unit_front is_mark (mantissa_front w).rest) m in
    ap is_whole (split-power w h m) ∙ rw (some, mark)

pub power_fault : (w sign whole part rest mark after psign behind power end : List ℕ) (e : DecFault) → IsFront w sign whole part rest → IsBack rest mark after psign behind power end
    → true ≡ nat_lt 0 (length (whole ++ part)) → false ≡ (length mark == 0) → (nat_lt 0 (length power) && (length end == 0)) ≡ false → e ≡ NotNumber (length w - length end) → IsNotSplit w e
power_fault w sign whole part rest mark after psign behind power end e h b t m r n =
    let some = some_digits w sign whole part rest h t in
    let marked = some_mark w sign whole part rest mark h b.mark_is m in
    let behind_is = b.behind_is ∙ ap (unit_after is_sign) (b.after_is ∙ ap (unit_after is_mark) h.rest_is) in
    let power_is = b.power_is ∙ ap digits_front behind_is in
    let end_is = b.end_is ∙ ap digits_after behind_is in
    not_split w end e
    (whole-power w some marked ∙ (λ i. nat_lt 0 (length (sym power_is i)) && (length (sym end_is i) == 0)) ∙ r)
    (end_is ∙ ap (λ (s : Split). s.rest) (sym (split-power w some marked))) n

pub power_found : (w sign whole part rest mark after psign behind power end : List ℕ) → IsFront w sign whole part rest → IsBack rest mark after psign behind power end
    → true ≡ nat_lt 0 (length (whole ++ part)) → false ≡ (length mark == 0) → (nat_lt 0 (length power) && (length end == 0)) ≡ true
    → IsSplit w (record { sign = sign; whole = whole; point = []; part = part; mark = []; power_sign = psign; power = power })
power_found w sign whole part rest mark after psign behind power end h b t m r =
    let some = some_digits w sign whole part rest h t in
    let marked = some_mark w sign whole part rest mark h b.mark_is m in
    let after_is = b.after_is ∙ ap (unit_after is_mark) h.rest_is in
    let sign_is = b.sign_is ∙ ap (unit_front is_sign) after_is in
    let behind_is = b.behind_is ∙ ap (unit_after is_sign) after_is in
    let power_is = b.power_is ∙ ap digits_front behind_is in
    let end_is = b.end_is ∙ ap digits_after behind_is in
    record {
      whole = whole-power w some marked ∙ (λ i. nat_lt 0 (length (sym power_is i)) && (length (sym end_is i) == 0)) ∙ r;
      parts = (λ i. record { sign = h.sign_is i; whole = h.whole_is i; point = []; part = h.part_is i; mark = []; power_sign = sign_is i; power = power_is i }) ∙ ap (λ (s : Split). bare s.parts) (sym (split-power w some marked));
    }

-- tests of an exponent's digits and of what follows them
pub no_power : (power end : List ℕ) → true ≡ (length power == 0) → (nat_lt 0 (length power) && (length end == 0)) ≡ false
no_power power end h = rw (le-ltb 0 (length power) (let e = eqb-true (length power) 0 (sym h) in omega arith))

pub more_behind : (power end : List ℕ) → false ≡ (length power == 0) → false ≡ (length end == 0) → (nat_lt 0 (length power) && (length end == 0)) ≡ false
more_behind power end h k = elim (eqb_tells (length power) 0) [
  | inl e ↦ absurd (let a = e.0 in cc)
  | inr e ↦ let ne = e.1 in rw (lt-ltb 0 (length power) (omega arith)) (sym k)
]

pub all_read : (power end : List ℕ) → false ≡ (length power == 0) → true ≡ (length end == 0) → (nat_lt 0 (length power) && (length end == 0)) ≡ true
all_read power end h k = elim (eqb_tells (length power) 0) [
  | inl e ↦ absurd (let a = e.0 in cc)
  | inr e ↦ let ne = e.1 in rw (lt-ltb 0 (length power) (omega arith)) (sym k)
]
