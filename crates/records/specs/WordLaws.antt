-- The words of a line by number.
use Rattle.std.proofs.Common.{◌≡◌, ℕ, zero, suc, ◌<◌, true, false, [], ◌∷◌, length, drop, refl, arith, true≢false}
use Rattle.lensmodel.specs.Files.Records.{Words, word_at}
use Rattle.lensmodel.specs.Files.TextLines.{words}
use Rattle.records.specs.Words.{has_word}

pub has_word-below : (k : ℕ) (ws : Words) → k < length ws → has_word k ws ≡ true
has_word-below k [] h = absurd (omega arith)
has_word-below zero (w ∷ ws) h = refl
has_word-below (suc k) (w ∷ ws) h = has_word-below k ws (omega arith)

pub no_word_at : (k : ℕ) (ws : Words) → has_word k ws ≡ false → word_at k ws ≡ []
no_word_at k [] h = refl
no_word_at zero (w ∷ ws) h = absurd (true≢false h)
no_word_at (suc k) (w ∷ ws) h = no_word_at k ws h

-- the words behind some others
pub word_at-drop : (k : ℕ) (ws : Words) → word_at 0 (drop k ws) ≡ word_at k ws
word_at-drop zero ws = refl
word_at-drop (suc k) [] = refl
word_at-drop (suc k) (w ∷ ws) = word_at-drop k ws

pub no_words : words [] ≡ []
unfolding words
no_words = refl
