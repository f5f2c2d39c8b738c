-- The decimal of a word's parts, or its fault.
use Rattle.std.proofs.Common.{◌≡◌, ℕ, ℤ, pos, ◌-◌, ◌^◌, ◌<◌, ◌≤◌, true, false, List, length, sym, ap, ◌∙◌, arith, inl, inr, Ok, Err}
use Rattle.std.proofs.Math.Nat.{pow-le-pow_right}
use Rattle.std.proofs.lemmas.Bool.{lt-ltb, le-ltb}
use Rattle.std.proofs.lemmas.Bool.Decides.{eqb_tells}
use Rattle.std.proofs.lemmas.Int.{ints, fits_signed_from_abs}
use Rattle.std.specs.Int.{w32}
use Rattle.std.specs.Prelude.{unsigned_abs, FitsSigned}
use Rattle.fixdec.specs.Decimal.{IsKept}
use Rattle.fixdec.specs.Word.{Parts, digits, from_first, significant, kept_decimal, signed, number, AreDigits, IsReadable}
use Rattle.fixdec.specs.Reading.{is_readable}
use Rattle.exactdec.specs.Reading.{judged}
use Rattle.exactdec.specs.declared.read.DecFault.TheVariants.{Digits, Exponent}
use Rattle.exactdec.specs.Mantissas.{IsKeptOf}
use Rattle.exactdec.proofs.Digits.{kept_above}
use Rattle.exactdec.proofs.Exponents.{sign_cases, sum_of}

-- the exponent of these parts
abbrev pub exponent : Parts → ℤ
exponent p = sum_of (signed p.power_sign (number p.power)) (length p.part) (length (from_first p) - length (significant p))

pub judged_long : (p : Parts) → 30 < length (significant p) → judged p ≡ Err Digits
unfolding judged
judged_long p h = rw (lt-ltb 30 (length (significant p)) h)

pub kept-zero : (p : Parts) → length (significant p) ≡ 0 → kept_decimal p ≡ record { mant = pos 0; exp = pos 0 }
unfolding kept_decimal
kept-zero p h = elim (eqb_tells (length (significant p)) 0) [ inl t ↦ rw t.0 | inr t ↦ absurd (t.1 h) ]

pub kept-some : (p : Parts) → 0 < length (significant p) → kept_decimal p ≡ record { mant = signed p.sign (number (significant p)); exp = exponent p }
unfolding kept_decimal
kept-some p h = elim (eqb_tells (length (significant p)) 0) [ inl t ↦ let e = t.1 in absurd (omega arith) | inr t ↦ rw t.0 ]

pub judged_zero : (p : Parts) → length (significant p) ≡ 0 → judged p ≡ Ok (record { mant = pos 0; exp = pos 0 })
unfolding judged
judged_zero p h = rw (le-ltb 30 (length (significant p)) (omega arith), kept-zero p h)

pub judged_past : (p : Parts) → length (significant p) ≤ 30 → 0 < length (significant p) → is_readable (exponent p) ≡ false → judged p ≡ Err Exponent
unfolding judged
judged_past p l h e = rw (le-ltb 30 (length (significant p)) l, kept-some p h, e)

pub judged_kept : (p : Parts) → length (significant p) ≤ 30 → 0 < length (significant p) → is_readable (exponent p) ≡ true → judged p ≡ Ok (record { mant = signed p.sign (number (significant p)); exp = exponent p })
unfolding judged
judged_kept p l h e = rw (le-ltb 30 (length (significant p)) l, kept-some p h, e)

pub readable_from : (e : ℤ) → is_readable e ≡ true → IsReadable e
readable_from e h = record { low = grind (arith, ints); high = grind (arith, ints) }

size_signed : (sign : List ℕ) (n : ℕ) → unsigned_abs (signed sign n) ≡ n
size_signed sign n = elim (sign_cases sign) [ inl s ↦ let e = s n in omega (arith, ints) | inr s ↦ let e = s n in omega (arith, ints) ]

-- what a decimal is made of fits its type
pub kept_fits : (sign : List ℕ) (n k : ℕ) (e : ℤ) → n < 10 ^ k → k ≤ 30 → 0 < n → is_readable e ≡ true → IsKept (record { mant = signed sign n; exp = e })
kept_fits sign n k e h l a r =
    let most : 10 ^ k ≤ 10 ^ 30 = pow-le-pow_right (omega arith) l in
    let low = (readable_from e r).low in
    let high = (readable_from e r).high in
    let size = size_signed sign n in
    record {
      digits = omega arith;
      low = omega (arith, ints);
      high = omega (arith, ints);
      zero = λ z. let none = ap unsigned_abs z in absurd (omega arith);
    }

-- the exponent, from what is kept of the digits
exponent_is : (p : Parts) (value kept seen : ℕ) → IsKeptOf value kept seen (digits p) → sum_of (signed p.power_sign (number p.power)) (length p.part) (seen - kept) ≡ exponent p
exponent_is p value kept seen h = ap (sum_of (signed p.power_sign (number p.power)) (length p.part)) (λ i. h.seen_is i - h.kept_is i)

-- the steps to a fault of the exponent
pub past_steps : (p : Parts) (value kept seen : ℕ) → kept ≤ 30 → (kept ≡ 0 → ⊥) → IsKeptOf value kept seen (digits p)
    → is_readable (sum_of (signed p.power_sign (number p.power)) (length p.part) (seen - kept)) ≡ false → Err Exponent ≡ judged p
past_steps p value kept seen l z h r =
    let is = h.kept_is in
    sym (judged_past p (omega arith) (omega arith) (sym (ap is_readable (exponent_is p value kept seen h)) ∙ r))

-- the steps to a decimal
pub kept_steps : (p : Parts) (value kept seen : ℕ) (mant exp : ℤ) → kept ≤ 30 → (kept ≡ 0 → ⊥) → IsKeptOf value kept seen (digits p)
    → mant ≡ signed p.sign value → exp ≡ sum_of (signed p.power_sign (number p.power)) (length p.part) (seen - kept)
    → is_readable (sum_of (signed p.power_sign (number p.power)) (length p.part) (seen - kept)) ≡ true
    → Ok (record { mant = mant; exp = exp }) ≡ judged p
kept_steps p value kept seen mant exp l z h m e r =
    let is = h.kept_is in
    let mant_is : mant ≡ signed p.sign (number (significant p)) = m ∙ ap (signed p.sign) (h.value_is l) in
    let exp_is : exp ≡ exponent p = e ∙ exponent_is p value kept seen h in
    (λ i. Ok (record { mant = mant_is i; exp = exp_is i })) ∙ sym (judged_kept p (omega arith) (omega arith) (sym (ap is_readable (exponent_is p value kept seen h)) ∙ r))

-- and the decimal is one of its type
pub kept_type : (p : Parts) (value kept seen : ℕ) (mant exp : ℤ) → AreDigits (digits p) → kept ≤ 30 → (kept ≡ 0 → ⊥) → value < 10 ^ kept → IsKeptOf value kept seen (digits p)
    → mant ≡ signed p.sign value → exp ≡ sum_of (signed p.power_sign (number p.power)) (length p.part) (seen - kept)
    → is_readable (sum_of (signed p.power_sign (number p.power)) (length p.part) (seen - kept)) ≡ true
    → IsKept (record { mant = mant; exp = exp })
kept_type p value kept seen mant exp d l z v h m e r =
    let is = h.kept_is in
    let number_is = h.value_is l in
    let above = kept_above (digits p) d (omega arith) in
    rw (m, e) (kept_fits p.sign value kept (sum_of (signed p.power_sign (number p.power)) (length p.part) (seen - kept)) v l (omega arith) r)

pub fits_exponent : (e f : ℤ) → (e ≡ f) × (is_readable f ≡ true) → FitsSigned w32 e
fits_exponent e f h =
    let is = h.0 in
    let low = (readable_from f h.1).low in
    let high = (readable_from f h.1).high in
    fits_signed_from_abs w32 e (omega (arith, ints))
