-- Whole roots are what they are called.
use Rattle.std.specs.Prelude.{ℕ, zero, suc, ◌≡◌, ◌+◌, ◌*◌, ◌<◌, ◌≤◌, cond, nat_le, nat_eq}
use Rattle.std.proofs.Common.{arith, subst}
use Rattle.std.proofs.lemmas.Bool.{cond_both, leb-true, leb-false, eqb-true, eqb-false}
use native.Mathlib.Decide.{dec_le}
use native.Mathlib.Nat.{mul-le-mul, mul-le-mul_left}
use mathlib.Core.Logic.{dite}
use Rattle.fixdec.specs.Root.{root_up_to, root, root_up_by, IsRoot, IsRootUp}

square-lt : (s r : ℕ) → s < r → s * s < r * r
square-lt s r t = let m : suc s * suc s ≤ r * r = mul-le-mul t t in omega arith

le-square : (r : ℕ) → r ≤ r * r
le-square zero = omega arith
le-square (suc r) = let m : suc r * 1 ≤ suc r * suc r = mul-le-mul_left (suc r) (omega arith) in omega arith

-- r is the greatest number up to m whose square is at most n
record IsGreatest (n m r : ℕ) : Type 0 where
  square : r * r ≤ n
  last : (s : ℕ) → s ≤ m → s * s ≤ n → s ≤ r

greatest_next : (n m r : ℕ) → IsGreatest n m r → IsGreatest n (suc m) (cond (nat_le (suc m * suc m) n) (suc m) r)
greatest_next n m r h =
    cond_both (nat_le (suc m * suc m) n) (suc m) r (IsGreatest n (suc m))
    (λ e. let l : suc m * suc m ≤ n = leb-true _ _ e in record { square = l; last = λ s k t. k })
    (λ e.
    let l : n < suc m * suc m = leb-false _ _ e in
    record {
      square = h.square;
      last = λ s k t. dite (dec_le s m) (λ y. h.last s y t) (λ y. let v : s ≡ suc m = omega arith in let z : suc m * suc m ≤ n = subst (λ (x : ℕ). x * x ≤ n) v t in absurd (omega arith));
    })

root_up_to_is : (n m : ℕ) → IsGreatest n m (root_up_to n m)
unfolding root_up_to
root_up_to_is n zero = record { square = omega arith; last = λ s l k. l }
root_up_to_is n (suc m) = greatest_next n m (root_up_to n m) (root_up_to_is n m)

pub root_is : (n : ℕ) → IsRoot n (root n)
unfolding root
root_is n = from (root_up_to n n) (root_up_to_is n n)
  where
    from : (r : ℕ) → IsGreatest n n r → IsRoot n r
    from r h = record {
      low = h.square;
      high = dite (dec_le ((r + 1) * (r + 1)) n) (λ t. let l = h.last (r + 1) (omega (arith, le-square (r + 1))) t in absurd (omega arith)) (λ t. omega arith);
    }

-- the root is the greatest number whose square is at most n
pub root_greatest : (n r s : ℕ) → IsRoot n r → s * s ≤ n → s ≤ r
root_greatest n r s h k =
    dite (dec_le s r) (λ t. t) (λ t.
    let u : r + 1 ≤ s = omega arith in
    let p : (r + 1) * (r + 1) ≤ s * s = mul-le-mul u u in
    let q = h.high in
    absurd (omega arith))

pub root_unique : (n r s : ℕ) → IsRoot n r → IsRoot n s → r ≡ s
root_unique n r s h k =
    let a = root_greatest n s r k h.low in
    let b = root_greatest n r s h k.low in
    omega arith

-- the root rounded up is the least number whose square is at least n
pub root_least : (n r s : ℕ) → IsRootUp n r → n ≤ s * s → r ≤ s
root_least n r s h k = dite (dec_le r s) (λ t. t) (λ t. let l = h.least s (omega arith) in absurd (omega arith))

pub root_up_by_is : (n : ℕ) → IsRootUp n (root_up_by n)
root_up_by_is n = from (root n) (root_is n)
  where
    from : (r : ℕ) → IsRoot n r → IsRootUp n (cond (nat_eq (r * r) n) r (r + 1))
    from r h =
        let l = h.low in
        let k = h.high in
        cond_both (nat_eq (r * r) n) r (r + 1) (IsRootUp n)
        (λ e.
        let same : r * r ≡ n = eqb-true _ _ e in
        record { high = omega arith; least = λ s t. let m : s * s < r * r = square-lt s r t in omega arith })
        (λ e.
        let other : r * r ≡ n → ⊥ = eqb-false _ _ e in
        record { high = omega arith; least = λ s t. let m : s * s ≤ r * r = mul-le-mul (omega arith) (omega arith) in omega arith })
