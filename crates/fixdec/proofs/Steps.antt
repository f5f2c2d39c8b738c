-- A quotient by a product, in steps.
use Rattle.std.proofs.Common.{ℕ, ◌≡◌, ◌<◌, ◌≤◌, ◌+◌, ◌*◌, ◌/◌, ◌%◌, ◌∙◌, sym, ap, arith}
use Rattle.std.proofs.Math.Nat.{div-div-eq-div-mul, add-mul-div_left, mod-eq_of_lt}
use Rattle.std.proofs.lemmas.Nat.{div-add-mod', div_below, mod_below, mul-add-lt}

-- a number below the modulus is its own rest
pub within : (n d m : ℕ) → 0 < d → n < m * d → n / d % m ≡ n / d
within n d m p h = mod-eq_of_lt (div_below n d m p h)

-- a rest and the next part are below the divisor times the parts
pub next_below : (head tail part odd : ℕ) → 0 < odd → 0 < part → head % odd * part + tail % part < part * odd
next_below head tail part odd p q = mul-add-lt (head % odd) part (tail % part) odd (mod_below head odd p) (mod_below tail part q)

split : (head tail part odd : ℕ) → head * part + tail ≡ head % odd * part + tail + odd * (head / odd * part)
split head tail part odd =
    let e = ap (λ (h : ℕ). h * part) (div-add-mod' head odd) in
    omega (arith, e)

-- the whole is the first quotient times the parts, and the quotient of what is left
pub two_steps : (n low part odd : ℕ) → 0 < odd
    → n / (low * part) / odd * part + (n / (low * part) % odd * part + n / low % part) / odd ≡ n / (low * odd)
two_steps n low part odd p =
    let head : ℕ = n / (low * part) in
    let tail : ℕ = n / low % part in
    let above : n / low / part ≡ head = div-div-eq-div-mul n low part in
    let number : n / low ≡ head * part + tail = sym (div-add-mod' (n / low) part) ∙ ap (λ (h : ℕ). h * part + tail) above in
    let quotient = ap (λ (m : ℕ). m / odd) (number ∙ split head tail part odd) ∙ add-mul-div_left (head % odd * part + tail) (head / odd * part) p in
    let whole = div-div-eq-div-mul n low odd in
    omega (arith, quotient, whole)
