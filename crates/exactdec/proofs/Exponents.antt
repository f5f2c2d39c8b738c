-- The exponent of a word, from its digits up to a limit.
use Rattle.std.proofs.Common.{◌≡◌, ℕ, ℤ, pos, ◌^◌, ◌<◌, ◌≤◌, true, false, List, [], ◌∷◌, refl, ap, ◌∙◌, arith, ◌⊎◌, inl, inr, min, subst, to_z, of_z}
use Rattle.std.proofs.lemmas.Bool.{cases_lt}
use Rattle.std.proofs.lemmas.Bool.Decides.{eqb_tells}
use Rattle.std.proofs.lemmas.Int.{ints, to_z-of_z, to_z_pos, fits_signed_from_abs}
use Rattle.std.specs.Int.{w128}
use Rattle.std.specs.Prelude.{Option, Some, None, MatchOption, ◌<ℤ◌, ◌+ℤ◌, ◌-ℤ◌, neg_ℤ, unsigned_abs}
use Rattle.fixdec.specs.Word.{signed}
use Rattle.fixdec.specs.Reading.{is_readable}

-- a sign keeps every number, or turns every number
pub sign_cases : (sign : List ℕ) → ((n : ℕ) → signed sign n ≡ pos n) ⊎ ((n : ℕ) → signed sign n ≡ neg_ℤ (pos n))
sign_cases [] = inl (λ n. refl)
sign_cases (c ∷ cs) = elim (eqb_tells c 45) [ inl t ↦ inr (λ n. rw t.0) | inr t ↦ inl (λ n. rw t.0) ]

is_readable-low : (e : ℤ) → e <ℤ neg_ℤ (pos 60) → is_readable e ≡ false
is_readable-low e h = grind (arith, ints)

is_readable-high : (e : ℤ) → pos 30 <ℤ e → is_readable e ≡ false
is_readable-high e h = grind (arith, ints)

-- the exponent by these parts
abbrev pub sum_of : ℤ → ℕ → ℕ → ℤ
sum_of s len zeros = s -ℤ pos len +ℤ pos zeros

abbrev pub IsJudged : Option ℤ → ℤ → Type 0
IsJudged r e = MatchOption r (is_readable e ≡ false) (λ x. (x ≡ e) × (is_readable e ≡ true))

-- far past the limits
far : (sign : List ℕ) (n len zeros : ℕ) → 10 ^ 30 ≤ n → len < 2 ^ 64 → zeros < 2 ^ 64 → is_readable (sum_of (signed sign n) len zeros) ≡ false
far sign n len zeros h l z = elim (sign_cases sign) [
  | inl s ↦ let e = s n in is_readable-high (sum_of (signed sign n) len zeros) (omega (arith, ints))
  | inr s ↦ let e = s n in is_readable-low (sum_of (signed sign n) len zeros) (omega (arith, ints))
]

judged_far : (r : Option ℤ) (e f : ℤ) → is_readable e ≡ false → is_readable f ≡ false → IsJudged r e → IsJudged r f
judged_far None e f p q h = q
judged_far (Some x) e f p q h = let t = h.1 in absurd cc

-- the digits of the exponent up to the limit give the same answer
pub judged_capped : (sign : List ℕ) (n m : ℕ) (s : ℤ) (len zeros : ℕ) (r : Option ℤ) → m ≡ min n 1_000_000_000_000_000_000_000_000_000_000 → s ≡ signed sign m → len < 2 ^ 64 → zeros < 2 ^ 64
    → IsJudged r (sum_of s len zeros) → IsJudged r (sum_of (signed sign n) len zeros)
judged_capped sign n m s len zeros r hm hs l z h = elim (cases_lt (10 ^ 30) n) [
  | inl p ↦
      let e : m ≡ 10 ^ 30 = omega arith in
      judged_far r (sum_of s len zeros) (sum_of (signed sign n) len zeros)
      (rw hs (far sign m len zeros (omega arith) l z)) (far sign n len zeros (omega arith) l z) h
  | inr p ↦
      let e : m ≡ n = omega arith in
      subst (λ (t : ℤ). IsJudged r (sum_of t len zeros)) (hs ∙ ap (signed sign) e) h
]

pub size_capped : (sign : List ℕ) (n m : ℕ) (s : ℤ) → m ≡ min n 1_000_000_000_000_000_000_000_000_000_000 → s ≡ signed sign m → unsigned_abs s ≤ 10 ^ 30
size_capped sign n m s hm hs = elim (sign_cases sign) [ inl p ↦ let e = p m in omega (arith, ints) | inr p ↦ let e = p m in omega (arith, ints) ]

-- nothing wraps
pub sum_is : (s : ℤ) (len zeros : ℕ) → unsigned_abs s ≤ 10 ^ 30 → len < 2 ^ 64 → zeros < 2 ^ 64
    → to_z w128 (of_z w128 (to_z w128 (of_z w128 (to_z w128 (of_z w128 s) -ℤ to_z w128 len)) +ℤ to_z w128 zeros)) ≡ sum_of s len zeros
sum_is s len zeros h l z =
    let fits = fits_signed_from_abs w128 s (omega arith) in
    let len_is = to_z_pos w128 len (omega arith) in
    let zeros_is = to_z_pos w128 zeros (omega arith) in
    let less = fits_signed_from_abs w128 (s -ℤ pos len) (omega (arith, ints)) in
    let more = fits_signed_from_abs w128 (sum_of s len zeros) (omega (arith, ints)) in
    simp (to_z-of_z, len_is, zeros_is) refl
