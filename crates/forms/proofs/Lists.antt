-- Lists of coefficients, element by element.
use Rattle.std.proofs.Common.{◌≡◌, ℕ, zero, suc, ◌+◌, ◌≤◌, ◌<◌, List, [], ◌∷◌, length, get_or, set, map, below_more, arith, refl, ap, sym, ◌∙◌}
use Rattle.std.specs.Prelude.{ℤ, pos, ◌≢◌, ◌+ℤ◌, ◌*ℤ◌, unsigned_abs}
use Rattle.std.proofs.lemmas.Int.{ints}
use Rattle.std.proofs.lemmas.List.{get_or-set_same, get_or-set_other}
use Rattle.std.proofs.lemmas.List.Sums.{get_or-le-sum_by}
use Rattle.fixdec.specs.Form.{coefficientwise, sizes, added_at}
use Rattle.forms.specs.Kept.{weighted}

-- a coefficient is at most the sum of the sizes
pub size_le : (ks : List ℤ) (i : ℕ) → i < length ks → unsigned_abs (get_or ks i (pos 0)) ≤ sizes ks
size_le ks i h = get_or-le-sum_by unsigned_abs ks i (pos 0) h

length-combined : (f : ℤ → ℤ → ℤ) (ks ls : List ℤ) → length ks ≡ length ls → length (coefficientwise f ks ls) ≡ length ks
length-combined f [] [] e = refl
length-combined f [] (l ∷ ls) e = absurd (omega arith)
length-combined f (k ∷ ks) [] e = absurd (omega arith)
length-combined f (k ∷ ks) (l ∷ ls) e = ap suc (length-combined f ks ls (omega arith))

get_or-combined : (f : ℤ → ℤ → ℤ) (ks ls : List ℤ) (i : ℕ) → length ks ≡ length ls → i < length ks
    → get_or (coefficientwise f ks ls) i (pos 0) ≡ f (get_or ks i (pos 0)) (get_or ls i (pos 0))
get_or-combined f [] ls i e h = absurd (omega arith)
get_or-combined f (k ∷ ks) [] i e h = absurd (omega arith)
get_or-combined f (k ∷ ks) (l ∷ ls) zero e h = refl
get_or-combined f (k ∷ ks) (l ∷ ls) (suc i) e h = get_or-combined f ks ls i (omega arith) (omega arith)

-- what an element of a list is, also for the one that is written at i
pub each_more : (f : ℕ → ℤ) (rs : List ℤ) (i : ℕ) (v : ℤ) → i < length rs → ((k : ℕ) → k < i → get_or rs k (pos 0) ≡ f k) → v ≡ f i
    → (k : ℕ) → k < i + 1 → get_or (set rs i v) k (pos 0) ≡ f k
each_more f rs i v h each e =
    below_more (λ k. get_or (set rs i v) k (pos 0) ≡ f k) i (λ k l. let ne : k ≢ i = omega arith in get_or-set_other rs i k v (pos 0) ne ∙ each k l)
    (get_or-set_same rs i v (pos 0) h ∙ e)

-- what is added at an index of a list is written there
pub added_at_is : (i : ℕ) (d : ℤ) (ks : List ℤ) → i < length ks → added_at i d ks ≡ set ks i (get_or ks i (pos 0) +ℤ d)
added_at_is i d [] h = absurd (omega arith)
added_at_is zero d (k ∷ ks) h = refl
added_at_is (suc i) d (k ∷ ks) h = ap (λ (xs : List ℤ). k ∷ xs) (added_at_is i d ks (omega arith))

-- two lists of 32 combine to one of 32
module _ (f : ℤ → ℤ → ℤ) (ks ls : List ℤ) (p : length ks ≡ 32) (q : length ls ≡ 32) where
  pub combined_all : length (coefficientwise f ks ls) ≡ 32
  combined_all = length-combined f ks ls (p ∙ sym q) ∙ p

  pub combined_at : (i : ℕ) → i < 32 → get_or (coefficientwise f ks ls) i (pos 0) ≡ f (get_or ks i (pos 0)) (get_or ls i (pos 0))
  combined_at i h = get_or-combined f ks ls i (p ∙ sym q) (omega arith)

-- one list times x
pub weighted_one : (x : ℤ) (ks : List ℤ) → weighted x ks (pos 0) ks ≡ map (λ k. x *ℤ k) ks
weighted_one x [] = refl
weighted_one x (k ∷ ks) = let e : x *ℤ k +ℤ pos 0 *ℤ k ≡ x *ℤ k = omega (arith, ints) in (λ i. e i ∷ weighted_one x ks i)

pub map_one : (ks : List ℤ) → map (λ k. pos 1 *ℤ k) ks ≡ ks
map_one [] = refl
map_one (k ∷ ks) = let e : pos 1 *ℤ k ≡ k = omega (arith, ints) in (λ i. e i ∷ map_one ks i)
