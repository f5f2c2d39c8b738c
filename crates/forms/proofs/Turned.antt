-- Quotients by a divisor below 0, from those of the numbers turned by its size.
use Rattle.std.proofs.Common.{ℕ, suc, ◌≡◌, ◌∙◌, ◌+◌, List, [], ◌∷◌, length, map, not, cond, ap, sym, subst, refl, inl, inr, arith, ◌⊎◌}
use Rattle.std.specs.Prelude.{ℤ, pos, negsuc, ◌+ℤ◌, ◌-ℤ◌, ◌*ℤ◌, ◌≤ℤ◌, ◌<ℤ◌, unsigned_abs}
use Rattle.std.specs.Ordering.{int_eq}
use Rattle.std.proofs.lemmas.Int.{ints}
use Rattle.std.proofs.lemmas.Bool.Decides.{same_from_decides, Decides-int_eq}
use Rattle.std.proofs.lemmas.List.Sums.{sum_by-cons}
use lib.IntN.{neg_ℤ}
use Rattle.fixdec.specs.Form.{coefficientwise, sizes, quotients, has_remainder, remainders}
use Rattle.fixdec.specs.Algebra.IntLaws.{ringℤ}
use Rattle.fixdec.specs.Algebra.Ring.{var, ◌⊕◌, ◌⊖◌, ◌⊗◌, neg}
use Rattle.fixdec.specs.Rounding.{floor}
use Rattle.forms.specs.Kept.{weighted}

-- m and ms have by the size of d the quotients that n and ns have by d, and are as large
pub record IsTurned (d m n : ℤ) (ms ns : List ℤ) : Type 0 where
  pub floor_is : floor m (pos (unsigned_abs d)) ≡ floor n d
  pub remainder_is : has_remainder (pos (unsigned_abs d)) m ≡ has_remainder d n
  pub size_is : unsigned_abs m ≡ unsigned_abs n
  pub quotients_are : quotients (pos (unsigned_abs d)) ms ≡ quotients d ns
  pub remainders_are : remainders (pos (unsigned_abs d)) ms ≡ remainders d ns
  pub sizes_are : sizes ms ≡ sizes ns

remainder_turned : (e : ℕ) (n : ℤ) → has_remainder (pos (suc e)) (neg_ℤ n) ≡ has_remainder (negsuc e) n
remainder_turned e n =
    let f = floor n (negsuc e) in
    let A = var 0 in let B = var 1 in
    let t : f *ℤ negsuc e ≡ neg_ℤ (f *ℤ pos (suc e)) = ringℤ (f ∷ pos (suc e) ∷ []) (A ⊗ neg B) (neg (A ⊗ B)) tt in
    ap not (same_from_decides (int_eq (f *ℤ pos (suc e)) (neg_ℤ n)) (int_eq (f *ℤ negsuc e) n) (Decides-int_eq (f *ℤ pos (suc e)) (neg_ℤ n)) (
      (λ b. let h = (Decides-int_eq (f *ℤ negsuc e) n).0 b in omega (arith, ints)),
      (λ h. (Decides-int_eq (f *ℤ negsuc e) n).1 (omega (arith, ints))),
    ))

quotients_turned : (e : ℕ) (ns : List ℤ) → quotients (pos (suc e)) (map neg_ℤ ns) ≡ quotients (negsuc e) ns
quotients_turned e [] = refl
quotients_turned e (n ∷ ns) = ap (λ (qs : List ℤ). floor n (negsuc e) ∷ qs) (quotients_turned e ns)

remainders_turned : (e : ℕ) (ns : List ℤ) → remainders (pos (suc e)) (map neg_ℤ ns) ≡ remainders (negsuc e) ns
remainders_turned e [] = refl
remainders_turned e (n ∷ ns) =
    let t = remainders_turned e ns in
    let h = remainder_turned e n in
    let a = sum_by-cons (λ x. cond (has_remainder (pos (suc e)) x) 1 0) (neg_ℤ n) (map neg_ℤ ns) in
    let b = sum_by-cons (λ x. cond (has_remainder (negsuc e) x) 1 0) n ns in
    a ∙ (λ i. cond (h i) 1 0 + t i) ∙ sym b

sizes_turned : (ns : List ℤ) → sizes (map neg_ℤ ns) ≡ sizes ns
sizes_turned [] = refl
sizes_turned (n ∷ ns) =
    let t = sizes_turned ns in
    let s : unsigned_abs (neg_ℤ n) ≡ unsigned_abs n = omega (arith, ints) in
    sum_by-cons unsigned_abs (neg_ℤ n) (map neg_ℤ ns) ∙ (λ i. s i + t i) ∙ sym (sum_by-cons unsigned_abs n ns)

combined_turned : (f g : ℤ → ℤ → ℤ) (ks ls : List ℤ) → length ks ≡ length ls → ((k l : ℤ) → g k l ≡ neg_ℤ (f k l)) → coefficientwise g ks ls ≡ map neg_ℤ (coefficientwise f ks ls)
combined_turned f g [] [] e h = refl
combined_turned f g [] (l ∷ ls) e h = absurd (omega arith)
combined_turned f g (k ∷ ks) [] e h = absurd (omega arith)
combined_turned f g (k ∷ ks) (l ∷ ls) e h = (λ i. h k l i ∷ combined_turned f g ks ls (omega arith) h i)

-- z, or z turned, as d is at least 0 or below it
abbrev pub IsWithSign : ℤ → ℤ → ℤ → Type 0
IsWithSign d z r = ((pos 0 ≤ℤ d) × (r ≡ z)) ⊎ ((d <ℤ pos 0) × (r ≡ neg_ℤ z))

pub sign_along : {d e z w r : ℤ} → d ≡ e → z ≡ w → IsWithSign d z r → IsWithSign e w r
sign_along p q (inl h) = inl (subst (λ (x : ℤ). pos 0 ≤ℤ x) p h.0, h.1 ∙ q)
sign_along p q (inr h) = inr (subst (λ (x : ℤ). x <ℤ pos 0) p h.0, h.1 ∙ ap neg_ℤ q)

straight : (u q k l : ℤ) → u *ℤ k +ℤ neg_ℤ q *ℤ l ≡ k *ℤ u -ℤ q *ℤ l
straight u q k l = let U = var 0 in let Q = var 1 in let K = var 2 in let L = var 3 in ringℤ (u ∷ q ∷ k ∷ l ∷ []) (U ⊗ K ⊕ neg Q ⊗ L) (K ⊗ U ⊖ Q ⊗ L) tt

other : (u q k l : ℤ) → neg_ℤ u *ℤ k +ℤ neg_ℤ (neg_ℤ q) *ℤ l ≡ neg_ℤ (k *ℤ u -ℤ q *ℤ l)
other u q k l = let U = var 0 in let Q = var 1 in let K = var 2 in let L = var 3 in ringℤ (u ∷ q ∷ k ∷ l ∷ []) (neg U ⊗ K ⊕ neg (neg Q) ⊗ L) (neg (K ⊗ U ⊖ Q ⊗ L)) tt

module _ (u q c x y : ℤ) (ks ls : List ℤ) (long : length ks ≡ length ls) where
  above : (d : ℕ) → x ≡ u → y ≡ neg_ℤ q → IsTurned (pos d) (x *ℤ c +ℤ y *ℤ pos d) (c *ℤ u -ℤ q *ℤ pos d) (weighted x ks y ls) (coefficientwise (λ k l. k *ℤ u -ℤ q *ℤ l) ks ls)
  above d p r =
      let m : x *ℤ c +ℤ y *ℤ pos d ≡ c *ℤ u -ℤ q *ℤ pos d = (λ i. p i *ℤ c +ℤ r i *ℤ pos d) ∙ straight u q c (pos d) in
      let ms : weighted x ks y ls ≡ coefficientwise (λ k l. k *ℤ u -ℤ q *ℤ l) ks ls
      = (λ i. weighted (p i) ks (r i) ls) ∙ (λ i. coefficientwise (λ k l. straight u q k l i) ks ls) in
      record {
        floor_is = ap (λ z. floor z (pos d)) m;
        remainder_is = ap (has_remainder (pos d)) m;
        size_is = ap unsigned_abs m;
        quotients_are = ap (quotients (pos d)) ms;
        remainders_are = ap (remainders (pos d)) ms;
        sizes_are = ap sizes ms;
      }

  below : (e : ℕ) → x ≡ neg_ℤ u → y ≡ neg_ℤ (neg_ℤ q)
      → IsTurned (negsuc e) (x *ℤ c +ℤ y *ℤ negsuc e) (c *ℤ u -ℤ q *ℤ negsuc e) (weighted x ks y ls) (coefficientwise (λ k l. k *ℤ u -ℤ q *ℤ l) ks ls)
  below e p r =
      let n = c *ℤ u -ℤ q *ℤ negsuc e in
      let ns = coefficientwise (λ k l. k *ℤ u -ℤ q *ℤ l) ks ls in
      let m : x *ℤ c +ℤ y *ℤ negsuc e ≡ neg_ℤ n = (λ i. p i *ℤ c +ℤ r i *ℤ negsuc e) ∙ other u q c (negsuc e) in
      let ms : weighted x ks y ls ≡ map neg_ℤ ns
      = (λ i. weighted (p i) ks (r i) ls) ∙ combined_turned (λ k l. k *ℤ u -ℤ q *ℤ l) (λ k l. neg_ℤ u *ℤ k +ℤ neg_ℤ (neg_ℤ q) *ℤ l) ks ls long (λ k l. other u q k l) in
      record {
        floor_is = ap (λ z. floor z (pos (suc e))) m;
        remainder_is = ap (has_remainder (pos (suc e))) m ∙ remainder_turned e n;
        size_is = ap unsigned_abs m ∙ omega (arith, ints);
        quotients_are = ap (quotients (pos (suc e))) ms ∙ quotients_turned e ns;
        remainders_are = ap (remainders (pos (suc e))) ms ∙ remainders_turned e ns;
        sizes_are = ap sizes ms ∙ sizes_turned ns;
      }

  pub turned_is : (d : ℤ) → IsWithSign d u x → IsWithSign d (neg_ℤ q) y
      → IsTurned d (x *ℤ c +ℤ y *ℤ d) (c *ℤ u -ℤ q *ℤ d) (weighted x ks y ls) (coefficientwise (λ k l. k *ℤ u -ℤ q *ℤ l) ks ls)
  turned_is (pos d) (inl p) (inl r) = above d p.1 r.1
  turned_is (pos d) (inl p) (inr r) = let s = r.0 in absurd (omega (arith, ints))
  turned_is (pos d) (inr p) r = let s = p.0 in absurd (omega (arith, ints))
  turned_is (negsuc e) (inl p) r = let s = p.0 in absurd (omega (arith, ints))
  turned_is (negsuc e) (inr p) (inl r) = let s = r.0 in absurd (omega (arith, ints))
  turned_is (negsuc e) (inr p) (inr r) = below e p.1 r.1

-- a first quotient, by the size of its divisor
pub first_turned : (u c d x : ℤ) → IsWithSign d u x → floor (c *ℤ x) (pos (unsigned_abs d)) ≡ floor (c *ℤ u) d
first_turned u c (pos d) x (inl p) = ap (λ z. floor (c *ℤ z) (pos d)) p.1
first_turned u c (pos d) x (inr p) = let s = p.0 in absurd (omega (arith, ints))
first_turned u c (negsuc e) x (inl p) = let s = p.0 in absurd (omega (arith, ints))
first_turned u c (negsuc e) x (inr p) =
    let A = var 0 in let B = var 1 in
    let t : c *ℤ neg_ℤ u ≡ neg_ℤ (c *ℤ u) = ringℤ (c ∷ u ∷ []) (A ⊗ neg B) (neg (A ⊗ B)) tt in
    ap (λ z. floor z (pos (suc e))) (ap (λ z. c *ℤ z) p.1 ∙ t)
