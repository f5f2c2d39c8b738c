-- Words that are the same.
use Rattle.std.specs.Prelude.{◌≡◌, ℕ, true, false, List, [], ◌∷◌, nat_eq, refl}
use Rattle.std.proofs.Common.{sym, subst, true≢false}
use lib.Pointwise.{pointwise}
use Rattle.std.proofs.lemmas.Bool.{eqb-true, eq-eqb}

pub same-yes : (a b : List ℕ) → pointwise nat_eq a b ≡ true → a ≡ b
same-yes [] [] h = refl
same-yes [] (y ∷ ys) h = absurd (true≢false (sym h))
same-yes (x ∷ xs) [] h = absurd (true≢false (sym h))
same-yes (x ∷ xs) (y ∷ ys) h =
    elim (nat_eq x y) as (λ b. nat_eq x y ≡ b → x ∷ xs ≡ y ∷ ys) [
      | true ↦ (λ e. let t : pointwise nat_eq xs ys ≡ true = rw e at h in (λ i. eqb-true x y e i ∷ same-yes xs ys t i))
      | false ↦ (λ e. let t : false ≡ true = rw e at h in absurd (true≢false (sym t)))
    ] refl

pub same-self : (a : List ℕ) → pointwise nat_eq a a ≡ true
same-self [] = refl
same-self (x ∷ xs) = rw (eq-eqb x x refl) (same-self xs)

pub same-of : (a b : List ℕ) → a ≡ b → pointwise nat_eq a b ≡ true
same-of a b e = subst (λ (x : List ℕ). pointwise nat_eq a x ≡ true) e (same-self a)
