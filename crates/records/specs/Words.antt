-- The words of a line by number.
use Rattle.std.specs.Prelude.{◌≡◌, ℕ, zero, suc, ◌<◌, Bool, true, false, List, [], ◌∷◌, length}
use Rattle.lensmodel.specs.Files.Records.{Words}

-- whether a line has a word of a number, counted from 0
abbrev pub has_word : ℕ → Words → Bool
has_word k [] = false
has_word zero (w ∷ more) = true
has_word (suc k) (w ∷ more) = has_word k more

-- whether a word is the first of a line, which has a unit, or is empty where the line has no word
abbrev pub IsFirst : List ℕ → Words → Type 0
IsFirst tag [] = tag ≡ []
IsFirst tag (w ∷ more) = (w ≡ tag) × (0 < length tag)
