-- Fractions by their terms: what numerator and denominator a sum, a product or a difference has.
use Rattle.std.proofs.Common.{◌≡◌, ℕ, suc, ◌+◌, ◌*◌, refl, sym, ◌∙◌, ap, arith}
use Rattle.std.specs.Prelude.{ℤ, pos, ◌+ℤ◌, ◌*ℤ◌}
use lib.IntN.{neg_ℤ}
use native.Mathlib.Nat.{eq_of_mul-eq-mul_right}
use borrow.Author.Differences.{up, down, product_is, same_in}
use Rattle.fixdec.specs.Frac.{Frac, den, ◌≈◌, ◌+Q◌, ◌*Q◌, ◌-Q◌, neg_Q, whole, less_both}

-- a positive factor cancels
pub cancel : (a b : ℤ) (k : ℕ) → a *ℤ pos (suc k) ≡ b *ℤ pos (suc k) → a ≡ b
cancel a b k h =
    let p = product_is a (pos (suc k)) in
    let q = product_is b (pos (suc k)) in
    let u = ap up h in
    let d = ap down h in
    let e : (up a + down b) * suc k ≡ (up b + down a) * suc k = omega arith in
    same_in a b (eq_of_mul-eq-mul_right (suc k) (omega arith) _ _ e)

-- the denominator of a sum, a difference or a product
pub den_both : (m n : ℕ) → pos (suc (less_both m n)) ≡ pos (suc m) *ℤ pos (suc n)
den_both m n = ap pos (omega arith)

-- x is n over d
pub record Is (x : Frac) (n d : ℤ) : Type 0 where
  pub num : x.num ≡ n
  pub den : den x ≡ d

-- each fraction is its numerator over its denominator; a sum, a product and the rest by the terms
pub is : (x : Frac) → Is x x.num (den x)
is x = record { num = refl; den = refl }

pub is_add : {x y : Frac} {n d m e : ℤ} → Is x n d → Is y m e → Is (x +Q y) (n *ℤ e +ℤ m *ℤ d) (d *ℤ e)
unfolding ◌+Q◌
is_add {x} {y} p q = record { num = λ i. p.num i *ℤ q.den i +ℤ q.num i *ℤ p.den i; den = den_both x.less y.less ∙ (λ i. p.den i *ℤ q.den i) }

pub is_mul : {x y : Frac} {n d m e : ℤ} → Is x n d → Is y m e → Is (x *Q y) (n *ℤ m) (d *ℤ e)
unfolding ◌*Q◌
is_mul {x} {y} p q = record { num = λ i. p.num i *ℤ q.num i; den = den_both x.less y.less ∙ (λ i. p.den i *ℤ q.den i) }

pub is_sub : {x y : Frac} {n d m e : ℤ} → Is x n d → Is y m e → Is (x -Q y) (n *ℤ e +ℤ neg_ℤ m *ℤ d) (d *ℤ e)
unfolding ◌-Q◌
is_sub {x} {y} p q = record { num = λ i. p.num i *ℤ q.den i +ℤ neg_ℤ (q.num i) *ℤ p.den i; den = den_both x.less y.less ∙ (λ i. p.den i *ℤ q.den i) }

pub is_neg : {x : Frac} {n d : ℤ} → Is x n d → Is (neg_Q x) (neg_ℤ n) d
unfolding neg_Q
is_neg p = record { num = ap neg_ℤ p.num; den = p.den }

pub is_whole : (z : ℤ) → Is (whole z) z (pos 1)
unfolding whole
is_whole z = record { num = refl; den = refl }

-- fractions whose cross products are equal are equal
pub same_if : {x y : Frac} {n d m e : ℤ} → Is x n d → Is y m e → n *ℤ e ≡ m *ℤ d → x ≈ y
same_if p q h = record { cross = (λ i. p.num i *ℤ q.den i) ∙ h ∙ sym (λ i. q.num i *ℤ p.den i) }
