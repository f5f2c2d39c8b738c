-- How many coefficients of a list are in use, and what the others leave out.
use Rattle.std.proofs.Common.{ℕ, zero, suc, ◌≡◌, ◌∙◌, ◌+◌, ◌≤◌, ◌<◌, List, [], ◌∷◌, length, get_or, take, map, replicate, refl, sym, ap, add-one, arith}
use Rattle.std.specs.Prelude.{ℤ, pos, negsuc, ◌≢◌, sum_by}
use Rattle.std.proofs.lemmas.List.Sums.{sum_by-cons}
use Rattle.fixdec.specs.Form.{coefficientwise}
use Rattle.forms.specs.Kept.{in_use, with_first}

-- ---- a first coefficient before n in use
first_none : (k : ℤ) (n : ℕ) → with_first k n ≤ 0 → k ≡ pos 0
first_none (pos zero) n h = refl
first_none (pos (suc k)) n h = absurd (omega arith)
first_none (negsuc k) n h = absurd (omega arith)

first_tail : (k : ℤ) (n i : ℕ) → with_first k n ≤ suc i → n ≤ i
first_tail (pos zero) zero i h = omega arith
first_tail (pos zero) (suc n) i h = omega arith
first_tail (pos (suc k)) n i h = omega arith
first_tail (negsuc k) n i h = omega arith

first_least : (k : ℤ) (n : ℕ) → n ≤ with_first k n
first_least (pos zero) zero = omega arith
first_least (pos zero) (suc n) = omega arith
first_least (pos (suc k)) n = omega arith
first_least (negsuc k) n = omega arith

first_most : (k : ℤ) (n : ℕ) → with_first k n ≤ suc n
first_most (pos zero) zero = omega arith
first_most (pos zero) (suc n) = omega arith
first_most (pos (suc k)) n = omega arith
first_most (negsuc k) n = omega arith

first_some : (k : ℤ) (n : ℕ) → k ≢ pos 0 → with_first k n ≡ suc n
first_some (pos zero) n h = absurd (h refl)
first_some (pos (suc k)) n h = refl
first_some (negsuc k) n h = refl

first_of_none : (k : ℤ) (n : ℕ) → k ≡ pos 0 → n ≤ 0 → with_first k n ≤ 0
first_of_none (pos zero) zero e h = omega arith
first_of_none (pos zero) (suc n) e h = absurd (omega arith)
first_of_none (pos (suc k)) n e h = absurd (cc)
first_of_none (negsuc k) n e h = absurd (cc)

first_more : (k : ℤ) (n : ℕ) → 0 < n → with_first k n ≡ suc n
first_more (pos zero) zero h = absurd (omega arith)
first_more (pos zero) (suc n) h = refl
first_more (pos (suc k)) n h = refl
first_more (negsuc k) n h = refl

-- ---- past the count in use each coefficient is 0
pub past_use : (ks : List ℤ) (i : ℕ) → in_use ks ≤ i → get_or ks i (pos 0) ≡ pos 0
unfolding in_use
past_use [] i h = refl
past_use (k ∷ ks) zero h = first_none k (in_use ks) h
past_use (k ∷ ks) (suc i) h = past_use ks i (first_tail k (in_use ks) i h)

-- so a sum over them all is one over those in use, where the term of 0 is 0
pub sum_in_use : (g : ℤ → ℕ) (ks : List ℤ) (n : ℕ) → g (pos 0) ≡ 0 → in_use ks ≤ n → sum_by g (take n ks) ≡ sum_by g ks
unfolding in_use
sum_in_use g [] zero z h = refl
sum_in_use g [] (suc n) z h = refl
sum_in_use g (k ∷ ks) zero z h =
    let first = ap g (first_none k (in_use ks) h) in
    let rest : in_use ks ≤ 0 = (let l = first_least k (in_use ks) in omega arith) in
    let t : sum_by g [] ≡ sum_by g ks = sum_in_use g ks zero z rest in
    let c = sum_by-cons g k ks in
    omega arith
sum_in_use g (k ∷ ks) (suc n) z h =
    let t = sum_in_use g ks n z (first_tail k (in_use ks) n h) in
    let c = sum_by-cons g k ks in
    let d = sum_by-cons g k (take n ks) in
    omega arith

-- and those in use are the same
pub use_in_use : (ks : List ℤ) (n : ℕ) → in_use ks ≤ n → in_use (take n ks) ≡ in_use ks
unfolding in_use
use_in_use [] zero h = refl
use_in_use [] (suc n) h = refl
use_in_use (k ∷ ks) zero h = omega arith
use_in_use (k ∷ ks) (suc n) h = ap (with_first k) (use_in_use ks n (first_tail k (in_use ks) n h))

-- ---- what one coefficient more changes
use_more : (ks : List ℤ) (i : ℕ) → i < length ks → get_or ks i (pos 0) ≢ pos 0 → in_use (take (suc i) ks) ≡ suc i
unfolding in_use
use_more [] i h n = absurd (omega arith)
use_more (k ∷ ks) zero h n = first_some k 0 n
use_more (k ∷ ks) (suc i) h n =
    let t : in_use (take (suc i) ks) ≡ suc i = use_more ks i (omega arith) n in
    first_more k (in_use (take (suc i) ks)) (omega arith) ∙ ap suc t

use_same : (ks : List ℤ) (i : ℕ) → i < length ks → get_or ks i (pos 0) ≡ pos 0 → in_use (take (suc i) ks) ≡ in_use (take i ks)
unfolding in_use
use_same [] i h e = absurd (omega arith)
use_same (k ∷ ks) zero h e = ap (λ x. with_first x 0) e
use_same (k ∷ ks) (suc i) h e = ap (with_first k) (use_same ks i (omega arith) e)

-- so where used are in use of the first i, i + 1 are of one more if coefficient i isn't 0, and else used
pub use_step : (ks : List ℤ) (i used next : ℕ) (k : ℤ) → i < length ks → get_or ks i (pos 0) ≡ k → (k ≢ pos 0 → next ≡ i + 1) → (k ≡ pos 0 → next ≡ used)
    → used ≡ in_use (take i ks) → next ≡ in_use (take (i + 1) ks)
use_step ks i used next (pos zero) h e w n u = rw (add-one i) (n refl ∙ u ∙ sym (use_same ks i h e))
use_step ks i used next (pos (suc k)) h e w n u = rw (add-one i) (w (λ z. absurd (cc)) ∙ add-one i ∙ sym (use_more ks i h (λ z. absurd (cc))))
use_step ks i used next (negsuc k) h e w n u = rw (add-one i) (w (λ z. absurd (cc)) ∙ add-one i ∙ sym (use_more ks i h (λ z. absurd (cc))))

pub use_length : (ks : List ℤ) → in_use ks ≤ length ks
unfolding in_use
use_length [] = omega arith
use_length (k ∷ ks) = let t = use_length ks in let m = first_most k (in_use ks) in omega arith

-- ---- lists that are made of others
pub use_map : (f : ℤ → ℤ) (ks : List ℤ) (n : ℕ) → f (pos 0) ≡ pos 0 → in_use ks ≤ n → in_use (map f ks) ≤ n
unfolding in_use
use_map f [] n z h = omega arith
use_map f (k ∷ ks) zero z h =
    let rest : in_use ks ≤ 0 = (let l = first_least k (in_use ks) in omega arith) in
    first_of_none (f k) (in_use (map f ks)) (ap f (first_none k (in_use ks) h) ∙ z) (use_map f ks zero z rest)
use_map f (k ∷ ks) (suc n) z h =
    let t = use_map f ks n z (first_tail k (in_use ks) n h) in
    let m = first_most (f k) (in_use (map f ks)) in
    omega arith

pub use_combined : (f : ℤ → ℤ → ℤ) (ks ls : List ℤ) (n : ℕ) → f (pos 0) (pos 0) ≡ pos 0 → in_use ks ≤ n → in_use ls ≤ n
    → in_use (coefficientwise f ks ls) ≤ n
unfolding in_use
use_combined f [] ls n z h l = use_map (f (pos 0)) ls n z l
use_combined f (k ∷ ks) [] n z h l = use_map (λ x. f x (pos 0)) (k ∷ ks) n z h
use_combined f (k ∷ ks) (x ∷ ls) zero z h l =
    let a : in_use ks ≤ 0 = (let m = first_least k (in_use ks) in omega arith) in
    let b : in_use ls ≤ 0 = (let m = first_least x (in_use ls) in omega arith) in
    first_of_none (f k x) (in_use (coefficientwise f ks ls)) ((λ i. f (first_none k (in_use ks) h i) (first_none x (in_use ls) l i)) ∙ z) (use_combined f ks ls zero z a b)
use_combined f (k ∷ ks) (x ∷ ls) (suc n) z h l =
    let t = use_combined f ks ls n z (first_tail k (in_use ks) n h) (first_tail x (in_use ls) n l) in
    let m = first_most (f k x) (in_use (coefficientwise f ks ls)) in
    omega arith

pub use_zeros : in_use (replicate 32 (pos 0)) ≡ 0
unfolding in_use
use_zeros = refl
