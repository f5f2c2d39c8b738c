-- The words of a line, found one after another.
use Rattle.std.proofs.Common.{◌≡◌, ℕ, zero, suc, ◌+◌, ◌<◌, ◌≤◌, true, false, List, [], ◌∷◌, length, drop, refl, sym, ap, ◌∙◌, arith, true≢false, drop-drop}
use Rattle.std.specs.Prelude.{Option, Some, None, MatchOption, IsSome, IsTrue, is_some}
use Rattle.lensmodel.specs.Files.Records.{Words, word_at}
use Rattle.records.specs.Words.{has_word, IsFirst}
use Rattle.records.specs.WordLaws.{has_word-below, word_at-drop}

-- ---- the words behind some others
has_word-drop : (k : ℕ) (ws : Words) → has_word 0 (drop k ws) ≡ has_word k ws
has_word-drop zero ws = refl
has_word-drop (suc k) [] = refl
has_word-drop (suc k) (w ∷ ws) = has_word-drop k ws

-- one word more is passed over
pub behind : (i : ℕ) (all rest more : Words) (w : List ℕ) → rest ≡ drop i all → rest ≡ w ∷ more → more ≡ drop (i + 1) all
behind i all rest more w at e = sym (ap (drop 1) e) ∙ ap (drop 1) at ∙ drop-drop 1 i all

-- nothing is left behind some words
pub none_left : (i k : ℕ) (all : Words) → i ≤ k → [] ≡ drop i all → has_word k all ≡ false
none_left zero k all h e = ap (has_word k) (sym e)
none_left (suc i) k [] h e = refl
none_left (suc i) zero (w ∷ ws) h e = absurd (omega arith)
none_left (suc i) (suc k) (w ∷ ws) h e = none_left i k ws (omega arith) e

pub there : (k : ℕ) (all more : Words) (w : List ℕ) → w ∷ more ≡ drop k all → has_word k all ≡ true
there k all more w e = sym (has_word-drop k all) ∙ sym (ap (has_word 0) e)

pub is_there : (k : ℕ) (all more : Words) (w : List ℕ) → w ∷ more ≡ drop k all → w ≡ word_at k all
is_there k all more w e = ap (word_at 0) e ∙ word_at-drop k all

below_of : (k : ℕ) (ws : Words) → has_word k ws ≡ true → k < length ws
below_of k [] e = absurd (true≢false (sym e))
below_of zero (w ∷ ws) e = omega arith
below_of (suc k) (w ∷ ws) e = let h = below_of k ws e in omega arith

-- a word that was looked for is found where the line has so many
pub found_below : {X : Type 0} (o : Option X) (P : X → Type 0) (k : ℕ) (ws : Words) → MatchOption o (has_word k ws ≡ false) (λ x. (has_word k ws ≡ true) × P x) → IsTrue (is_some o) → k < length ws
found_below (Some x) P k ws m h = below_of k ws m.0
found_below None P k ws m h = absurd (true≢false (sym h))

pub below_found : {X : Type 0} (o : Option X) (P : X → Type 0) (k : ℕ) (ws : Words) → MatchOption o (has_word k ws ≡ false) (λ x. (has_word k ws ≡ true) × P x) → k < length ws → IsSome o
below_found (Some x) P k ws m h = refl
below_found None P k ws m h = absurd (true≢false (sym (has_word-below k ws h) ∙ m))

-- ---- the first word
pub no_first : (tag : List ℕ) (ws : Words) → IsFirst tag ws → length tag ≡ 0 → ws ≡ []
no_first tag [] f h = refl
no_first tag (w ∷ ws) f h = absurd (omega (arith, f.1))

pub first_of_none : (tag : List ℕ) (ws : Words) → IsFirst tag ws → ws ≡ [] → length tag ≡ 0
first_of_none tag [] f e = ap length f
first_of_none tag (w ∷ ws) f e = absurd (true≢false (ap (has_word 0) e))

pub first_there : (tag : List ℕ) (ws : Words) → IsFirst tag ws → 0 < length tag → has_word 0 ws ≡ true
first_there tag [] f h = absurd (omega (arith, ap length f))
first_there tag (w ∷ ws) f h = refl

pub first_is : (tag : List ℕ) (ws : Words) → IsFirst tag ws → 0 < length tag → tag ≡ word_at 0 ws
first_is tag [] f h = absurd (omega (arith, ap length f))
first_is tag (w ∷ ws) f h = sym f.0
