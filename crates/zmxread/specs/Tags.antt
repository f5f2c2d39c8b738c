-- Tags with the numbers of their lines, as contracts see them.
use Rattle.std.specs.Prelude.{ℕ, suc, List, [], ◌∷◌, map, if◌then◌else◌}
use Rattle.arrayvec.specs.ArrayVec.{ArrayVec}
use Rattle.lensmodel.specs.Files.Lens.{tag_name}
use Rattle.lensmodel.specs.Files.Records.{Words, same_word}

-- the tags of a map, each with the number of its lines, in order
abbrev pub pairs_of : List (ArrayVec ℕ × ℕ) → List (List ℕ × ℕ)
pairs_of entries = map (λ e. (e.0.items, e.1)) entries

-- with one more line of a tag
abbrev pub with_one_more : List ℕ → List (List ℕ × ℕ) → List (List ℕ × ℕ)
with_one_more tag [] = (tag, 1) ∷ []
with_one_more tag (pair ∷ more) = if same_word tag pair.0 then (pair.0, suc pair.1) ∷ more else pair ∷ with_one_more tag more

-- with a line that isn't used: its tag has one more, and a line without words has no tag
abbrev pub with_unused : Words → List (List ℕ × ℕ) → List (List ℕ × ℕ)
with_unused [] pairs = pairs
with_unused (w ∷ ws) pairs = with_one_more (tag_name (w ∷ ws)) pairs
