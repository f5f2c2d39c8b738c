-- Width bounds in whole numbers.
use Rattle.std.proofs.Common.{◌≡◌, ℕ, zero, suc, ◌+◌, ◌*◌, ◌^◌, ◌-◌, ◌<◌, ◌≤◌, Bool, false, min, refl, sym, ap, ◌∙◌, inl, inr, arith, lit<, lit≤}
use Rattle.std.proofs.lemmas.Bool.{lt-ltb, le-ltb, lt-leb, le-leb, cases_lt, and_left, and_right}
use Rattle.std.proofs.lemmas.Int.{ints}
use Rattle.std.proofs.Math.Nat.{pow-succ', pow-le-pow_right, suc-mul, one-le-pow}
use Rattle.std.specs.Prelude.{ℤ, pos, negsuc, ◌<ℤ◌, ◌≤ℤ◌, ◌-ℤ◌, ◌&&◌, not, nat_lt, nat_le, int_lt, int_le, unsigned_abs}
use Rattle.fixdec.specs.Decimal.{Decimal}
use Rattle.fixdec.specs.Frac.{whole, ◌*Q◌}
use Rattle.lensmodel.specs.Setup.Comparison.{is_below_decimal}
use Rattle.lensmodel.specs.Setup.Ranges.{is_width}

abbrev thousand : Decimal
thousand = record { mant = pos 1000; exp = pos 0 }

-- ---- a decimal above 1000, by the sign of its exponent
above_1000 : (m k : ℕ) → is_below_decimal thousand (record { mant = pos m; exp = pos k }) ≡ nat_lt 1000 (m * 10 ^ k)
unfolding whole ◌*Q◌
above_1000 m k = let e : m * 10 ^ k * 1 ≡ m * 10 ^ k = omega arith in ap (λ (n : ℕ). nat_lt 1000 n) e

part_above_1000 : (m k : ℕ) → is_below_decimal thousand (record { mant = pos m; exp = negsuc k }) ≡ nat_lt (1000 * 10 ^ suc k) m
unfolding whole ◌*Q◌
part_above_1000 m k =
    let p = one-le-pow (suc k) 10 (lit< tt) in
    let d : suc (0 * (10 ^ suc k - 1) + 0 + (10 ^ suc k - 1)) ≡ 10 ^ suc k = omega (arith, p) in
    let e : m * 1 * 1 ≡ m = omega arith in
    ap (λ (n : ℕ). nat_lt (1000 * n) (m * 1 * 1)) d ∙ ap (λ (n : ℕ). nat_lt (1000 * 10 ^ suc k) n) e

-- ---- no width bound
pub not_positive : (m e : ℤ) → m ≤ℤ pos 0 → is_width (record { mant = m; exp = e }) ≡ false
not_positive m e h = and_left (int_lt (pos 0) m) (not (is_below_decimal thousand (record { mant = m; exp = e }))) (not_above_0 m h)
  where
    not_above_0 : (m : ℤ) → m ≤ℤ pos 0 → int_lt (pos 0) m ≡ false
    not_above_0 (pos n) h = le-ltb 0 n (omega (arith, ints))
    not_above_0 (negsuc n) h = refl

pub too_great : (m e : ℤ) → pos 0 <ℤ m → pos 3 <ℤ e → is_width (record { mant = m; exp = e }) ≡ false
too_great (negsuc n) e h g = absurd (omega (arith, ints))
too_great (pos zero) e h g = absurd (omega (arith, ints))
too_great (pos (suc n)) (negsuc k) h g = absurd (omega (arith, ints))
too_great (pos (suc n)) (pos k) h g =
    let d : Decimal = record { mant = pos (suc n); exp = pos k } in
    let four : 4 ≤ k = omega (arith, ints) in
    let p : 10 ^ 4 ≤ 10 ^ k = pow-le-pow_right (lit≤ tt) four in
    let great : 1000 < suc n * 10 ^ k = omega (arith, p, suc-mul n (10 ^ k)) in
    and_right (int_lt (pos 0) (pos (suc n))) (not (is_below_decimal thousand d)) (ap not (above_1000 (suc n) k ∙ lt-ltb 1000 (suc n * 10 ^ k) great))

-- ---- the bound of the mantissa
not_above : (a b m p : ℕ) → (a < b → p < m) → (b ≤ a → m ≤ p) → nat_le m p ≡ not (nat_lt a b)
not_above a b m p f g =
    elim (cases_lt a b) [
      | inl h ↦ lt-leb m p (f h) ∙ sym (ap not (lt-ltb a b h))
      | inr h ↦ le-leb m p (g h) ∙ sym (ap not (le-ltb a b h))
    ]

thousands : (k : ℕ) → 10 ^ (k + 4) ≡ 1000 * 10 ^ suc k
thousands k =
    let s : k + 4 ≡ suc (suc (suc (suc k))) = omega arith in
    ap (λ (n : ℕ). 10 ^ n) s
    ∙ omega (arith, pow-succ' 10 (suc (suc (suc k))), pow-succ' 10 (suc (suc k)), pow-succ' 10 (suc k))

mantissa_bound : (m : ℕ) (e : ℤ) (j : ℕ) → e ≤ℤ pos 3 → m < 10 ^ 30 → pos j ≡ pos 3 -ℤ e
    → nat_le m (10 ^ min j 30) ≡ not (is_below_decimal thousand (record { mant = pos m; exp = e }))
mantissa_bound m (pos zero) j h small d =
    let b : min j 30 ≡ 3 = omega (arith, ints) in
    ap (λ (n : ℕ). nat_le m (10 ^ n)) b ∙ not_above 1000 (m * 10 ^ 0) m (10 ^ 3) (λ l. omega arith) (λ l. omega arith) ∙ sym (ap not (above_1000 m 0))
mantissa_bound m (pos (suc zero)) j h small d =
    let b : min j 30 ≡ 2 = omega (arith, ints) in
    ap (λ (n : ℕ). nat_le m (10 ^ n)) b ∙ not_above 1000 (m * 10 ^ 1) m (10 ^ 2) (λ l. omega arith) (λ l. omega arith) ∙ sym (ap not (above_1000 m 1))
mantissa_bound m (pos (suc (suc zero))) j h small d =
    let b : min j 30 ≡ 1 = omega (arith, ints) in
    ap (λ (n : ℕ). nat_le m (10 ^ n)) b ∙ not_above 1000 (m * 10 ^ 2) m (10 ^ 1) (λ l. omega arith) (λ l. omega arith) ∙ sym (ap not (above_1000 m 2))
mantissa_bound m (pos (suc (suc (suc zero)))) j h small d =
    let b : min j 30 ≡ 0 = omega (arith, ints) in
    ap (λ (n : ℕ). nat_le m (10 ^ n)) b ∙ not_above 1000 (m * 10 ^ 3) m (10 ^ 0) (λ l. omega arith) (λ l. omega arith) ∙ sym (ap not (above_1000 m 3))
mantissa_bound m (pos (suc (suc (suc (suc k))))) j h small d = absurd (omega (arith, ints))
mantissa_bound m (negsuc k) j h small d =
    let four : j ≡ k + 4 = omega (arith, ints) in
    let t = thousands k in
    elim (cases_lt 30 (k + 4)) [
      | inl l ↦
          let b : min j 30 ≡ 30 = omega arith in
          let least : 30 ≤ k + 4 = omega arith in
          let p : 10 ^ 30 ≤ 10 ^ (k + 4) = pow-le-pow_right (lit≤ tt) least in
          let within : m ≤ 10 ^ 30 = omega arith in
          let under : m ≤ 1000 * 10 ^ suc k = omega (arith, p, t) in
          ap (λ (n : ℕ). nat_le m (10 ^ n)) b ∙ le-leb m (10 ^ 30) within
          ∙ sym (ap not (part_above_1000 m k ∙ le-ltb (1000 * 10 ^ suc k) m under))
      | inr l ↦
          let b : min j 30 ≡ k + 4 = omega arith in
          ap (λ (n : ℕ). nat_le m (10 ^ n)) b
          ∙ not_above (1000 * 10 ^ suc k) m m (10 ^ (k + 4)) (λ x. omega (arith, t)) (λ x. omega (arith, t))
          ∙ sym (ap not (part_above_1000 m k))
    ]

pub within_bound : (m e : ℤ) (j : ℕ) → pos 0 <ℤ m → e ≤ℤ pos 3 → unsigned_abs m < 10 ^ 30 → pos j ≡ pos 3 -ℤ e
    → int_le m (pos (10 ^ min j 30)) ≡ is_width (record { mant = m; exp = e })
within_bound (negsuc n) e j h g small d = absurd (omega (arith, ints))
within_bound (pos m) e j h g small d =
    let above : 0 < m = omega (arith, ints) in
    let few : m < 10 ^ 30 = omega (arith, ints) in
    mantissa_bound m e j g few d
    ∙ sym (ap (λ (b : Bool). b && not (is_below_decimal thousand (record { mant = pos m; exp = e }))) (lt-ltb 0 m above))
