-- Laws of the order of fractions: rewriting by ≈, sums, differences, products, cancelling and cases.
use Rattle.std.proofs.Common.{◌≡◌, ℕ, [], ◌∷◌, arith, ◌⊎◌, inl, inr, subst}
use Rattle.std.proofs.lemmas.Int.{ints, by_lt_z}
use Rattle.std.specs.Prelude.{ℤ, pos, ◌+ℤ◌, ◌-ℤ◌, ◌*ℤ◌, ◌<ℤ◌}
use lib.IntN.{neg_ℤ}
use Rattle.fixdec.specs.Frac.{Frac, den, ◌≈◌, ◌≤Q◌, ◌<Q◌, ◌+Q◌, ◌*Q◌, ◌-Q◌, neg_Q, whole}
use Rattle.fixdec.specs.Algebra.FracLaws.{Q-IsRing, ≈_refl, ≈_sym}
use Rattle.fixdec.specs.Algebra.Order.{nn_in, nn_out, nn_whole, nn_times, le_cases, le_trans, le_of_same, le_whole, le_whole_out}
use Rattle.fixdec.specs.Algebra.Linear.{linear, linear_le, fact, name, order, no_fact, reads}
use Rattle.fixdec.specs.Algebra.Inverse.{inverse, inverse_is, inverse_nn}

-- ---- whole numbers
pub zero_le_whole : (n : ℕ) → whole (pos 0) ≤Q whole (pos n)
zero_le_whole n = nn_in (nn_whole n)

pub zero_le_one : whole (pos 0) ≤Q whole (pos 1)
zero_le_one = zero_le_whole 1

pub whole_same : {a b : ℤ} → a ≡ b → whole a ≈ whole b
whole_same {a} e = subst (λ z. whole a ≈ whole z) e (≈_refl (whole a))

pub whole_add : (a b : ℤ) → whole (a +ℤ b) ≈ whole a +Q whole b
whole_add = Q-IsRing.of-add

pub whole_mul : (a b : ℤ) → whole (a *ℤ b) ≈ whole a *Q whole b
whole_mul = Q-IsRing.of-mul

pub whole_neg : (a : ℤ) → whole (neg_ℤ a) ≈ neg_Q (whole a)
unfolding whole neg_Q
whole_neg a = ≈_refl _

pub whole_sub : (a b : ℤ) → whole (a -ℤ b) ≈ whole a -Q whole b
whole_sub a b =
    linear (whole (a -ℤ b) ∷ whole a ∷ whole b ∷ whole (neg_ℤ b) ∷ []) _ _ (search reads depth 12)
    (name (whole_add a (neg_ℤ b)) (search reads depth 12) (name (whole_neg b) (search reads depth 12) no_fact)) tt

-- ---- rewriting by ≈
pub le_along : {a b c d : Frac} → a ≈ c → b ≈ d → a ≤Q b → c ≤Q d
le_along p q h = le_trans (le_of_same (≈_sym p)) (le_trans h (le_of_same q))

pub le_same_left : {a b c : Frac} → a ≈ b → b ≤Q c → a ≤Q c
le_same_left p h = le_trans (le_of_same p) h

pub le_same_right : {a b c : Frac} → a ≤Q b → b ≈ c → a ≤Q c
le_same_right h p = le_trans h (le_of_same p)

-- ---- sums and differences
pub le_add : {a b c d : Frac} → a ≤Q b → c ≤Q d → a +Q c ≤Q b +Q d
le_add {a} {b} {c} {d} p q =
    linear_le (a ∷ b ∷ c ∷ d ∷ []) _ _ (search reads depth 12)
    (order zero_le_one p (search reads depth 12) (order zero_le_one q (search reads depth 12) no_fact)) tt

pub le_neg : {a b : Frac} → a ≤Q b → neg_Q b ≤Q neg_Q a
le_neg {a} {b} p = linear_le (a ∷ b ∷ []) _ _ (search reads depth 12) (order zero_le_one p (search reads depth 12) no_fact) tt

pub add_nn : {a b : Frac} → whole (pos 0) ≤Q a → whole (pos 0) ≤Q b → whole (pos 0) ≤Q a +Q b
add_nn {a} {b} p q =
    linear_le (a ∷ b ∷ []) _ _ (search reads depth 12)
    (order zero_le_one p (search reads depth 12) (order zero_le_one q (search reads depth 12) no_fact)) tt

-- ---- products
pub le_mul : {a b : Frac} (k : Frac) → whole (pos 0) ≤Q k → a ≤Q b → a *Q k ≤Q b *Q k
le_mul {a} {b} k n p = linear_le (a ∷ b ∷ k ∷ []) _ _ (search reads depth 12) (order n p (search reads depth 12) no_fact) tt

pub le_mul_left : {a b : Frac} (k : Frac) → whole (pos 0) ≤Q k → a ≤Q b → k *Q a ≤Q k *Q b
le_mul_left {a} {b} k n p = linear_le (a ∷ b ∷ k ∷ []) _ _ (search reads depth 12) (order n p (search reads depth 12) no_fact) tt

pub le_mul_both : {a b c d : Frac} → whole (pos 0) ≤Q a → whole (pos 0) ≤Q d → a ≤Q b → c ≤Q d → a *Q c ≤Q b *Q d
le_mul_both {a} {b} {c} {d} n m p q = le_trans (le_mul_left a n q) (le_mul d m p)

pub mul_nn : {a b : Frac} → whole (pos 0) ≤Q a → whole (pos 0) ≤Q b → whole (pos 0) ≤Q a *Q b
mul_nn p q = nn_in (nn_times (nn_out p) (nn_out q))

pub square_nn : (a : Frac) → whole (pos 0) ≤Q a *Q a
square_nn a = by (le_cases (whole (pos 0)) a)
  where
    by : (whole (pos 0) ≤Q a) ⊎ (a ≤Q whole (pos 0)) → whole (pos 0) ≤Q a *Q a
    by (inl n) = mul_nn n n
    by (inr n) =
        let m : whole (pos 0) ≤Q neg_Q a = linear_le (a ∷ []) _ _ (search reads depth 12) (order zero_le_one n (search reads depth 12) no_fact) tt in
        linear_le (a ∷ []) _ _ (search reads depth 12) (order m m (search reads depth 12) no_fact) tt

-- ---- strict order
pub lt_or_le : (a b : Frac) → (a <Q b) ⊎ (b ≤Q a)
lt_or_le a b = by_lt_z (a.num *ℤ den b) (b.num *ℤ den a) (λ h. inl record { cross = h }) (λ h. inr record { cross = h })

pub lt_not_le : {a b : Frac} → a <Q b → b ≤Q a → ⊥
lt_not_le p q = let l = p.cross in let m = q.cross in omega (arith, ints)

pub lt_from_not : {a b : Frac} → (b ≤Q a → ⊥) → a <Q b
lt_from_not {a} {b} h = elim (lt_or_le a b) [ inl l ↦ l | inr m ↦ absurd (h m) ]

pub le_of_lt : {a b : Frac} → a <Q b → a ≤Q b
le_of_lt p = record { cross = let l = p.cross in omega (arith, ints) }

pub lt_of_lt_le : {a b c : Frac} → a <Q b → b ≤Q c → a <Q c
lt_of_lt_le p q = lt_from_not (λ r. lt_not_le p (le_trans q r))

pub lt_of_le_lt : {a b c : Frac} → a ≤Q b → b <Q c → a <Q c
lt_of_le_lt p q = lt_from_not (λ r. lt_not_le q (le_trans r p))

pub lt_along : {a b c d : Frac} → a ≈ c → b ≈ d → a <Q b → c <Q d
lt_along p q h = lt_of_le_lt (le_of_same (≈_sym p)) (lt_of_lt_le h (le_of_same q))

pub lt_whole : {a b : ℤ} → a <ℤ b → whole a <Q whole b
lt_whole h = lt_from_not (λ r. let l = le_whole_out r in omega (arith, ints))

pub lt_whole_out : {a b : ℤ} → whole a <Q whole b → a <ℤ b
lt_whole_out {a} {b} h = by_lt_z a b (λ l. l) (λ l. absurd (lt_not_le h (le_whole l)))

-- what lies strictly above or below 0 isn't 0
pub pos_nonzero : {a : Frac} → whole (pos 0) <Q a → a ≈ whole (pos 0) → ⊥
pos_nonzero p e = lt_not_le p (le_of_same e)

-- ---- cancelling
-- a positive factor cancels
pub le_cancel : {a b : Frac} (k : Frac) → whole (pos 0) <Q k → a *Q k ≤Q b *Q k → a ≤Q b
le_cancel {a} {b} k p h =
    linear_le (a ∷ b ∷ k ∷ inverse k ∷ []) _ _ (search reads depth 12)
    (fact (a -Q b) (inverse_is k (pos_nonzero p)) (search reads depth 12)
    (order (nn_in (inverse_nn k (nn_out (le_of_lt p)))) h (search reads depth 12) no_fact)) tt

-- a factor below 0 cancels, and turns the order
pub le_cancel_neg : {a b : Frac} (k : Frac) → k <Q whole (pos 0) → a *Q k ≤Q b *Q k → b ≤Q a
le_cancel_neg {a} {b} k p h =
    le_cancel (neg_Q k)
    (lt_from_not (λ r. lt_not_le p (linear_le (k ∷ []) _ _ (search reads depth 12) (order zero_le_one r (search reads depth 12) no_fact) tt)))
    (linear_le (a ∷ b ∷ k ∷ []) _ _ (search reads depth 12) (order zero_le_one h (search reads depth 12) no_fact) tt)

-- a factor that isn't 0 cancels
pub same_cancel : {a b : Frac} (k : Frac) → (k ≈ whole (pos 0) → ⊥) → a *Q k ≈ b *Q k → a ≈ b
same_cancel {a} {b} k p h =
    linear (a ∷ b ∷ k ∷ inverse k ∷ []) _ _ (search reads depth 12)
    (fact (b -Q a) (inverse_is k p) (search reads depth 12)
    (fact (inverse k) h (search reads depth 12) no_fact)) tt

pub mul_pos : {a b : Frac} → whole (pos 0) <Q a → whole (pos 0) <Q b → whole (pos 0) <Q a *Q b
mul_pos {a} {b} p q =
    lt_from_not (λ r. lt_not_le p (le_cancel b q (le_trans r (le_of_same (≈_sym (Q-IsRing.zero_mul b))))))

-- where squares are in order, so are numbers that aren't negative
pub le_of_squares : {a b : Frac} → whole (pos 0) ≤Q a → whole (pos 0) ≤Q b → a *Q a ≤Q b *Q b → a ≤Q b
le_of_squares {a} {b} p q h = by (lt_or_le b a)
  where
    by : (b <Q a) ⊎ (a ≤Q b) → a ≤Q b
    by (inr l) = l
    by (inl l) =
        let s : whole (pos 0) <Q a +Q b = lt_of_lt_le (lt_of_le_lt q l) (linear_le (a ∷ b ∷ []) _ _ (search reads depth 12) (order zero_le_one q (search reads depth 12) no_fact) tt) in
        le_cancel (a +Q b) s (linear_le (a ∷ b ∷ []) _ _ (search reads depth 12) (order zero_le_one h (search reads depth 12) no_fact) tt)
