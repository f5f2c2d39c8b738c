-- Whether a decimal is above 10^9 in size, by its mantissa and its exponent.
use Rattle.std.proofs.Common.{◌≡◌, ℕ, zero, suc, ◌+◌, ◌-◌, ◌*◌, ◌^◌, ◌<◌, ◌≤◌, true, false, sym, ap, ◌∙◌, arith, mul-one}
use Rattle.std.proofs.Math.Nat.{one-le-pow, lt_of_mul-lt-mul_right, mul-lt-mul_of_pos_right, mul-le-mul_right, pow-le-pow_right}
use Rattle.std.proofs.lemmas.Bool.{ltb-true, ltb-false, lt-ltb, le-ltb, ltb_from_iff}
use Rattle.std.proofs.lemmas.Int.{ints, unsigned_abs-mul}
use Rattle.std.proofs.lemmas.Nat.{pow-add}
use Rattle.std.specs.Prelude.{ℤ, pos, negsuc, ◌-ℤ◌, ◌*ℤ◌, nat_lt, int_lt, unsigned_abs}
use Rattle.fixdec.specs.Frac.{◌*Q◌, whole}
use Rattle.lensmodel.specs.Setup.WholeFaults.{is_great}

same_lt : (a b c d : ℕ) → (a < b → c < d) → (c < d → a < b) → nat_lt a b ≡ nat_lt c d
same_lt a b c d f g = ltb_from_iff ((λ (e : nat_lt a b ≡ true). f (ltb-true a b e)), (λ (h : c < d). lt-ltb a b (g h)))

-- the same of both numbers times a third
times_lt : (a n c : ℕ) → 1 ≤ c → nat_lt a n ≡ nat_lt (a * c) (n * c)
times_lt a n c h = same_lt a n (a * c) (n * c) (λ l. mul-lt-mul_of_pos_right l h) (λ l. lt_of_mul-lt-mul_right c l)

power : (k : ℕ) → 1 ≤ 10 ^ k
power k = one-le-pow k 10 (omega arith)

-- an exponent that isn't below 0, and one that is
great_up : (m : ℤ) (k : ℕ) → is_great (record { mant = m; exp = pos k }) ≡ nat_lt (10 ^ 9) (unsigned_abs m * 10 ^ k)
unfolding ◌*Q◌ whole
great_up m k = ap (λ (n : ℕ). nat_lt (10 ^ 9) n) (mul-one (unsigned_abs (m *ℤ pos (10 ^ k))) ∙ unsigned_abs-mul m (pos (10 ^ k)))

great_down : (m : ℤ) (k : ℕ) → is_great (record { mant = m; exp = negsuc k }) ≡ nat_lt (10 ^ 9 * 10 ^ suc k) (unsigned_abs m)
unfolding ◌*Q◌ whole
great_down m k =
    let p = power (suc k) in
    let d : suc (0 * (10 ^ suc k - 1) + 0 + (10 ^ suc k - 1)) ≡ 10 ^ suc k = omega arith in
    let n : unsigned_abs (m *ℤ pos 1) * 1 ≡ unsigned_abs m = mul-one (unsigned_abs (m *ℤ pos 1)) ∙ unsigned_abs-mul m (pos 1) ∙ mul-one (unsigned_abs m) in
    ap (λ (x : ℕ). nat_lt (10 ^ 9 * x) (unsigned_abs (m *ℤ pos 1) * 1)) d ∙ ap (λ (x : ℕ). nat_lt (10 ^ 9 * 10 ^ suc k) x) n

-- past an exponent of 9 every mantissa but 0 is enough
positive : (n c : ℕ) → 10 ^ 9 < n * c → 0 < n
positive zero c h = absurd (omega arith)
positive (suc n) c h = omega arith

enough : (n k : ℕ) → 9 < k → nat_lt 0 n ≡ nat_lt (10 ^ 9) (n * 10 ^ k)
enough n k h =
    let p : 10 ^ 10 ≤ 10 ^ k = pow-le-pow_right {n = 10} (omega arith) {i = 10} {j = k} h in
    same_lt 0 n (10 ^ 9) (n * 10 ^ k)
    (λ l. let m : 1 * 10 ^ k ≤ n * 10 ^ k = mul-le-mul_right (10 ^ k) l in omega (arith, m, p))
    (positive n (10 ^ k))

-- the difference of 9 and an exponent that isn't above it
below_nine : (k : ℕ) → k ≤ 9 → unsigned_abs (pos 9 -ℤ pos k) ≡ 9 - k
below_nine k h = omega (arith, ints)

within : (n k : ℕ) → k ≤ 9 → nat_lt (10 ^ (9 - k)) n ≡ nat_lt (10 ^ 9) (n * 10 ^ k)
within n k h =
    let sum : 9 - k + k ≡ 9 = omega arith in
    let p : 10 ^ (9 - k) * 10 ^ k ≡ 10 ^ 9 = sym (pow-add 10 (9 - k) k) ∙ ap (λ (i : ℕ). 10 ^ i) sum in
    times_lt (10 ^ (9 - k)) n (10 ^ k) (power k) ∙ ap (λ (x : ℕ). nat_lt x (n * 10 ^ k)) p

pub great_over : (m z : ℤ) (size : ℕ) → size ≡ unsigned_abs m → int_lt (pos 9) z ≡ true → nat_lt 0 size ≡ is_great (record { mant = m; exp = z })
great_over m (pos k) size e h = ap (λ (n : ℕ). nat_lt 0 n) e ∙ enough (unsigned_abs m) k (ltb-true 9 k h) ∙ sym (great_up m k)
great_over m (negsuc k) size e h = cc

pub great_within : (m z : ℤ) (size : ℕ) → size ≡ unsigned_abs m → int_lt (pos 9) z ≡ false → nat_lt (10 ^ unsigned_abs (pos 9 -ℤ z)) size ≡ is_great (record { mant = m; exp = z })
great_within m (pos k) size e h =
    let l : k ≤ 9 = ltb-false 9 k h in
    ap (λ (i : ℕ). nat_lt (10 ^ i) size) (below_nine k l) ∙ ap (λ (n : ℕ). nat_lt (10 ^ (9 - k)) n) e ∙ within (unsigned_abs m) k l ∙ sym (great_up m k)
great_within m (negsuc k) size e h =
    ap (λ (x : ℕ). nat_lt x size) (pow-add 10 9 (suc k)) ∙ ap (λ (n : ℕ). nat_lt (10 ^ 9 * 10 ^ suc k) n) e ∙ sym (great_down m k)

-- a mantissa of 30 digits doesn't reach 10^30
pub great_under : (m z : ℤ) → unsigned_abs m < 10 ^ 30 → int_lt (pos 9) z ≡ false → 30 ≤ unsigned_abs (pos 9 -ℤ z) → false ≡ is_great (record { mant = m; exp = z })
great_under m (pos k) l h t = let e = below_nine k (ltb-false 9 k h) in absurd (omega arith)
great_under m (negsuc k) l h t =
    let p : 10 ^ 30 ≤ 10 ^ (9 + suc k) = pow-le-pow_right {n = 10} (omega arith) {i = 30} {j = 9 + suc k} t in
    let e : 10 ^ (9 + suc k) ≡ 10 ^ 9 * 10 ^ suc k = pow-add 10 9 (suc k) in
    sym (great_down m k ∙ le-ltb (10 ^ 9 * 10 ^ suc k) (unsigned_abs m) (omega (arith, l, p, e)))
