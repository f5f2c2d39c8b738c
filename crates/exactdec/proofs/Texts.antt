-- The lengths of texts, and decimals with a sign.
use Rattle.std.proofs.Common.{◌≡◌, ℕ, zero, suc, ℤ, pos, negsuc, ◌+◌, ◌/◌, ◌%◌, ◌^◌, ◌<◌, ◌≤◌, List, [], ◌∷◌, ◌++◌, length, refl, sym, ap, ◌∙◌, arith, length-append, append_assoc, append-nil}
use Rattle.std.proofs.Math.Nat.{mod-eq_of_lt, pow-le-pow_right, lt_of_lt_of_le, lt_of_le_of_lt, div-le_self}
use Rattle.std.specs.Prelude.{◌≢◌, ◌≤ℤ◌, unsigned_abs, FitsSigned}
use Rattle.std.specs.Int.{w32, w128, cast_unsigned}
use Rattle.std.proofs.lemmas.Int.{ints, fits_signed_from_abs}
use Rattle.fixdec.specs.Decimal.{Decimal}
use Rattle.std.specs.Fmt.{decimal, signed_decimal}
use Rattle.std.proofs.lemmas.Fmt.{decimal_step_wide, decimal_digit, length-decimal-le_wide}
use Rattle.fixdec.specs.DecimalText.{last_digits, minus_sign, fix_text, power_text, dec_text}

pub length-last_digits : (k n : ℕ) → length (last_digits k n) ≡ k
length-last_digits zero n = refl
length-last_digits (suc k) n = length-append (last_digits k (n / 10)) ((48 + n % 10) ∷ []) ∙ omega (arith, length-last_digits k (n / 10))

-- what fits 128 bits has at most 39 digits
pub wide : (n : ℕ) → n < 2 ^ 128 → n < 10 ^ 39
wide n h = omega arith

pub length_wide : (n : ℕ) → n < 2 ^ 128 → length (decimal n) ≤ 39
length_wide n h = length-decimal-le_wide 39 n (omega arith) (wide n h) (omega (arith, wide n h))

pub length-step : (n : ℕ) → 10 ≤ n → n < 2 ^ 128 → length (decimal n) ≡ length (decimal (n / 10)) + 1
length-step n l h = ap length (decimal_step_wide n l (omega arith)) ∙ length-append (decimal (n / 10)) ((48 + n % 10) ∷ [])

pub signed_is : (z : ℤ) → signed_decimal z ≡ minus_sign z ++ decimal (unsigned_abs z)
signed_is (pos n) = refl
signed_is (negsuc n) = refl

-- a last digit behind the digits before it, and a digit alone
pub more_digits : (n : ℕ) (bs xs : List ℕ) → 10 ≤ n → n < 2 ^ 128 → xs ≡ bs ++ decimal (n / 10) → xs ++ (48 + n % 10) ∷ [] ≡ bs ++ decimal n
more_digits n bs xs l h e =
    ap (λ (t : List ℕ). t ++ (48 + n % 10) ∷ []) e ∙ append_assoc bs (decimal (n / 10)) ((48 + n % 10) ∷ []) ∙ ap (λ (t : List ℕ). bs ++ t) (sym (decimal_step_wide n l (omega arith)))

pub one_digit : (n : ℕ) (bs xs : List ℕ) → n < 10 → xs ≡ bs → xs ++ (48 + n % 10) ∷ [] ≡ bs ++ decimal n
one_digit n bs xs l e =
    let d : n % 10 ≡ n = mod-eq_of_lt l in
    ap (λ (t : List ℕ). t ++ (48 + n % 10) ∷ []) e ∙ ap (λ (m : ℕ). bs ++ (48 + m) ∷ []) d ∙ ap (λ (t : List ℕ). bs ++ t) (sym (decimal_digit n l))

pub room_behind : (n : ℕ) (bs xs : List ℕ) → xs ++ (48 + n % 10) ∷ [] ≡ bs ++ decimal n → length bs + length (decimal n) ≤ 64 → length xs < 64
room_behind n bs xs e h =
    let p : length xs + 1 ≡ length (bs ++ decimal n) = sym (length-append xs ((48 + n % 10) ∷ [])) ∙ ap length e in
    omega (arith, length-append bs (decimal n))

pub length-minus_sign : (z : ℤ) → length (minus_sign z) ≤ 1
length-minus_sign (pos n) = omega arith
length-minus_sign (negsuc n) = omega arith

-- the length of a decimal with a sign, from its size
pub length-signed : (k : ℕ) (z : ℤ) → 0 < k → k ≤ 39 → unsigned_abs z < 10 ^ k → length (signed_decimal z) ≤ k + 1
length-signed k z l u h =
    let small : unsigned_abs z < 10 ^ 64 = lt_of_lt_of_le h (pow-le-pow_right {n = 10} (omega arith) {i = k} {j = 64} (omega arith)) in
    omega (arith, ap length (signed_is z), length-append (minus_sign z) (decimal (unsigned_abs z)), length-minus_sign z, length-decimal-le_wide k (unsigned_abs z) l h small)

-- the steps of a printed raw number
pub fix_text_steps : (scale size unit : ℕ) (raw : ℤ) (a b d e f : List ℕ) → a ≡ [] → b ≡ a ++ minus_sign raw → size ≡ unsigned_abs raw → unit ≡ 10 ^ scale → d ≡ b ++ decimal (size / unit) → e ≡ d ++ 46 ∷ [] → f ≡ e ++ last_digits scale size → f ≡ fix_text scale raw
unfolding fix_text
fix_text_steps scale size unit raw a b d e f h0 h1 h2 h3 h4 h5 h6 = cc

pub length-whole : (a b : List ℕ) (raw : ℤ) → a ≡ [] → b ≡ a ++ minus_sign raw → (size unit : ℕ) → size < 2 ^ 128 → length b + length (decimal (size / unit)) ≤ 40
length-whole a b raw h0 h1 size unit h =
    omega (arith, ap length h0, ap length h1, length-append a (minus_sign raw), length-minus_sign raw, length_wide (size / unit) (lt_of_le_of_lt (div-le_self size unit) h))

power_text_is : (z : ℤ) → z ≢ pos 0 → power_text z ≡ 101 ∷ signed_decimal z
power_text_is (pos zero) h = absurd (h refl)
power_text_is (pos (suc n)) h = refl
power_text_is (negsuc n) h = refl

-- the steps of a printed decimal
pub dec_text_steps : (d : Decimal) (a b e f : List ℕ) → a ≡ [] → b ≡ a ++ signed_decimal d.mant → d.exp ≢ pos 0 → e ≡ b ++ 101 ∷ [] → f ≡ e ++ signed_decimal d.exp → f ≡ dec_text d
unfolding dec_text
dec_text_steps d a b e f h0 h1 h2 h3 h4 =
    let p = power_text_is d.exp h2 in
    let q = append_assoc (signed_decimal d.mant) (101 ∷ []) (signed_decimal d.exp) in
    cc

pub dec_text_whole : (d : Decimal) (a b : List ℕ) → a ≡ [] → b ≡ a ++ signed_decimal d.mant → d.exp ≡ pos 0 → b ≡ dec_text d
unfolding dec_text
dec_text_whole d a b h0 h1 h2 =
    let p = ap power_text h2 in
    let q = append-nil (signed_decimal d.mant) in
    cc

pub small_mant : (z : ℤ) → unsigned_abs z < 10 ^ 30 → length (signed_decimal z) ≤ 31
small_mant z h = length-signed 30 z (omega arith) (omega arith) h

pub small_exp : (z : ℤ) → negsuc 107 ≤ℤ z → z ≤ℤ pos 78 → unsigned_abs z < 1000
small_exp (pos n) l h = omega (arith, ints)
small_exp (negsuc n) l h = omega (arith, ints)

pub length-exp : (z : ℤ) → negsuc 107 ≤ℤ z → z ≤ℤ pos 78 → length (signed_decimal z) ≤ 4
length-exp z l h = length-signed 3 z (omega arith) (omega arith) (small_exp z l h)

pub fits_mant : (z : ℤ) → unsigned_abs z < 10 ^ 30 → FitsSigned w128 z
fits_mant z h = fits_signed_from_abs w128 z (omega arith)

pub fits_exp : (z : ℤ) → negsuc 107 ≤ℤ z → z ≤ℤ pos 78 → FitsSigned w32 z × FitsSigned w128 z
fits_exp z l h = let s = small_exp z l h in (fits_signed_from_abs w32 z (omega arith), fits_signed_from_abs w128 z (omega arith))

pub zero_bits : (z : ℤ) → negsuc 107 ≤ℤ z → z ≤ℤ pos 78 → cast_unsigned w32 z ≡ 0 → z ≡ pos 0
zero_bits (pos n) l h e = ap pos e
zero_bits (negsuc n) l h e = let s = small_exp (negsuc n) l h in absurd (omega arith)
