-- The order of decimals, in whole numbers: a power of ten on one side, or a rounded quotient on the other.
use Rattle.std.proofs.Common.{◌≡◌, ℕ, zero, suc, ◌<◌, ◌≤◌, ◌^◌, min, sym, subst, [], ◌∷◌, arith}
use Rattle.std.proofs.Math.Nat.{pow-le-pow_right}
use Rattle.std.proofs.lemmas.Bool.Decides.{same_from_decides, Decides-like}
use Rattle.std.proofs.lemmas.Int.{ints, by_lt_z}
use Rattle.std.specs.Bool.{Decides}
use Rattle.std.specs.Prelude.{ℤ, pos, negsuc, ◌+ℤ◌, ◌*ℤ◌, ◌<ℤ◌, int_lt, unsigned_abs}
use lib.IntN.{neg_ℤ}
use Rattle.fixdec.specs.Decimal.{Decimal, ten_power, value}
use Rattle.fixdec.specs.Frac.{◌≈◌, ◌≤Q◌, ◌<Q◌, whole}
use Rattle.fixdec.specs.Algebra.FracLaws.{≈_refl, ≈_sym, ≈_trans}
use Rattle.fixdec.specs.Algebra.IntLaws.{ringℤ}
use Rattle.fixdec.specs.Algebra.Linear.{linear, fact, no_fact, reads}
use Rattle.fixdec.specs.Algebra.MemberLaws.{unit_pos}
use Rattle.fixdec.specs.Algebra.Order.{le_trans, le_whole, le_whole_out}
use Rattle.fixdec.specs.Algebra.OrderLaws.{le_along, le_cancel, le_mul, le_of_lt, lt_along, lt_from_not, lt_not_le, lt_whole, lt_whole_out, whole_mul}
use Rattle.fixdec.specs.Algebra.PowerLaws.{value-times}
use Rattle.fixdec.specs.Algebra.Ring.{var, ◌⊗◌, neg}
use Rattle.fixdec.specs.Rounding.{ratio, IsCeil}
use Rattle.fixdec.specs.Algebra.RoundingLaws.{ratio_is}
use Rattle.lensmodel.specs.Files.Picking.{is_below_decimal}

-- each of two facts follows from the other
record Same (P Q : Type 0) : Type 0 where
  there : P → Q
  back : Q → P

Decides-int_lt : (a b : ℤ) → Decides (int_lt a b) (a <ℤ b)
Decides-int_lt a b = (λ e. omega (arith, ints), λ h. grind (arith, ints))

same_tests : (a b c d : ℤ) → Same (a <ℤ b) (c <ℤ d) → int_lt a b ≡ int_lt c d
same_tests a b c d s = same_from_decides (int_lt a b) (int_lt c d) (Decides-like (int_lt a b) s.there s.back (Decides-int_lt a b)) (Decides-int_lt c d)

Decides-below : (a b : Decimal) → Decides (is_below_decimal a b) (value a <Q value b)
Decides-below a b =
    let d = Decides-int_lt ((value a).num *ℤ pos (suc (value b).less)) ((value b).num *ℤ pos (suc (value a).less)) in
    (λ e. record { cross = d.0 e }, λ h. d.1 h.cross)

-- ---- a power of ten on one side
ten_power_pos : (k : ℤ) → whole (pos 0) <Q ten_power k
unfolding whole
ten_power_pos (pos k) = lt_whole (unit_pos k)
ten_power_pos (negsuc k) = record { cross = omega (arith, ints) }

-- at one exponent the order is that of the mantissas
at_one_exponent : (m n e : ℤ) → Same (value (record { mant = m; exp = e }) <Q value (record { mant = n; exp = e })) (m <ℤ n)
at_one_exponent m n e = record {
  there = λ h. lt_whole_out (lt_from_not (λ r. lt_not_le h (le_mul (ten_power e) (le_of_lt (ten_power_pos e)) r)));
  back = λ h. lt_from_not (λ r. lt_not_le (lt_whole h) (le_cancel (ten_power e) (ten_power_pos e) r));
}

-- a power of ten in the exponent is one in the mantissa
value-raised : (m e : ℤ) (k : ℕ) → value (record { mant = m; exp = e +ℤ pos k }) ≈ value (record { mant = m *ℤ pos (10 ^ k); exp = e })
value-raised m e k =
    let p = pos (10 ^ k) in
    ≈_trans (value-times m e (pos k))
    (linear (whole m ∷ whole p ∷ whole (m *ℤ p) ∷ ten_power e ∷ []) _ _ (search reads depth 20 fits 4000)
    (fact (ten_power e) (≈_sym (whole_mul m p)) (search reads depth 20 fits 4000) no_fact) tt)

turned : (m n p : ℤ) → Same (m <ℤ (n *ℤ p)) ((neg_ℤ n *ℤ p) <ℤ neg_ℤ m)
turned m n p =
    let A = var 0 in let B = var 1 in
    let e : neg_ℤ n *ℤ p ≡ neg_ℤ (n *ℤ p) = ringℤ (n ∷ p ∷ []) (neg A ⊗ B) (neg (A ⊗ B)) tt in
    record { there = λ h. omega (arith, ints); back = λ h. omega (arith, ints) }

-- where the first exponent is greater by k
pub below_up : (m n e : ℤ) (k : ℕ) → is_below_decimal (record { mant = m; exp = e +ℤ pos k }) (record { mant = n; exp = e }) ≡ int_lt (m *ℤ pos (10 ^ k)) n
below_up m n e k =
    let a : Decimal = record { mant = m; exp = e +ℤ pos k } in
    let b : Decimal = record { mant = n; exp = e } in
    let s = at_one_exponent (m *ℤ pos (10 ^ k)) n e in
    let r = value-raised m e k in
    same_from_decides _ _
    (Decides-like (is_below_decimal a b) (λ h. s.there (lt_along r (≈_refl _) h)) (λ h. lt_along (≈_sym r) (≈_refl _) (s.back h)) (Decides-below a b))
    (Decides-int_lt (m *ℤ pos (10 ^ k)) n)

-- where the second exponent is greater by k
pub below_down : (m n e : ℤ) (k : ℕ) → is_below_decimal (record { mant = m; exp = e }) (record { mant = n; exp = e +ℤ pos k }) ≡ int_lt (neg_ℤ n *ℤ pos (10 ^ k)) (neg_ℤ m)
below_down m n e k =
    let p = pos (10 ^ k) in
    let a : Decimal = record { mant = m; exp = e } in
    let b : Decimal = record { mant = n; exp = e +ℤ pos k } in
    let s = at_one_exponent m (n *ℤ p) e in
    let t = turned m n p in
    let r = value-raised n e k in
    same_from_decides _ _
    (Decides-like (is_below_decimal a b) (λ h. t.there (s.there (lt_along (≈_refl _) r h))) (λ h. lt_along (≈_refl _) (≈_sym r) (s.back (t.back h))) (Decides-below a b))
    (Decides-int_lt (neg_ℤ n *ℤ p) (neg_ℤ m))

-- ---- a rounded quotient on the other side
-- m is below n / d, rounded up, exactly where m d is below n
below_quotient : (m n d c : ℤ) → pos 0 <ℤ d → IsCeil (ratio n d) c → Same (m <ℤ c) ((m *ℤ d) <ℤ n)
below_quotient m n d c h i =
    let e = ratio_is n d (λ z. let l = h in absurd (omega (arith, ints))) in
    record {
      there = λ l. by_lt_z (m *ℤ d) n (λ r. r) (λ r.
          let q : ratio n d ≤Q whole m = le_cancel (whole d) (lt_whole h) (le_along (≈_sym e) (whole_mul m d) (le_whole r)) in
          let x = i.least m q in
          absurd (omega (arith, ints)));
      back = λ l. by_lt_z m c (λ r. r) (λ r.
          let q : ratio n d ≤Q whole m = le_trans i.above (le_whole r) in
          let x = le_whole_out (le_along e (≈_sym (whole_mul m d)) (le_mul (whole d) (le_of_lt (lt_whole h)) q)) in
          absurd (omega (arith, ints)));
    }

-- past every n of at most 30 digits each power of ten is as good as the thirtieth
great_power : (m n : ℤ) (k : ℕ) → unsigned_abs n < 10 ^ 30 → 30 ≤ k → Same ((m *ℤ pos (10 ^ 30)) <ℤ n) ((m *ℤ pos (10 ^ k)) <ℤ n)
great_power m n k small h = by m
  where
    great : 10 ^ 30 ≤ 10 ^ k
    great = pow-le-pow_right (omega arith) h

    by : (m : ℤ) → Same ((m *ℤ pos (10 ^ 30)) <ℤ n) ((m *ℤ pos (10 ^ k)) <ℤ n)
    by (pos zero) = record { there = λ l. omega (arith, ints); back = λ l. omega (arith, ints) }
    by (pos (suc m)) = let g = great in record { there = λ l. omega (arith, ints); back = λ l. omega (arith, ints) }
    by (negsuc m) = let g = great in record { there = λ l. omega (arith, ints); back = λ l. omega (arith, ints) }

pub below_multiple : (m n c : ℤ) (k : ℕ) → unsigned_abs n < 10 ^ 30 → IsCeil (ratio n (pos (10 ^ min k 30))) c → int_lt m c ≡ int_lt (m *ℤ pos (10 ^ k)) n
below_multiple m n c k small i =
    let s = below_quotient m n (pos (10 ^ min k 30)) c (unit_pos (min k 30)) i in
    by_lt_z (pos k) (pos 30)
    (λ l. let e : min k 30 ≡ k = omega (arith, ints) in same_tests _ _ _ _ (rw e at s))
    (λ l.
    let e : min k 30 ≡ 30 = omega (arith, ints) in
    let h : 30 ≤ k = omega (arith, ints) in
    let g = great_power m n k small h in
    let t = rw e at s in
    same_tests _ _ _ _ (record { there = λ x. g.there (t.there x); back = λ x. t.back (g.back x) }))

-- ---- two decimals, by how far their exponents lie apart
pub below_from_above : (a b : Decimal) (k : ℕ) → a.exp ≡ b.exp +ℤ pos k → is_below_decimal a b ≡ int_lt (a.mant *ℤ pos (10 ^ k)) b.mant
below_from_above a b k e =
    subst (λ z. is_below_decimal (record { mant = a.mant; exp = z }) b ≡ int_lt (a.mant *ℤ pos (10 ^ k)) b.mant) (sym e) (below_up a.mant b.mant b.exp k)

pub below_from_under : (a b : Decimal) (k : ℕ) → b.exp ≡ a.exp +ℤ pos k → is_below_decimal a b ≡ int_lt (neg_ℤ b.mant *ℤ pos (10 ^ k)) (neg_ℤ a.mant)
below_from_under a b k e =
    subst (λ z. is_below_decimal a (record { mant = b.mant; exp = z }) ≡ int_lt (neg_ℤ b.mant *ℤ pos (10 ^ k)) (neg_ℤ a.mant)) (sym e) (below_down a.mant b.mant a.exp k)
