-- Where the words of a line stand.
use Rattle.std.specs.Prelude.{ℕ, ◌+◌, nat_lt, List, [], ◌∷◌, length, drop, if◌then◌else◌}
use Rattle.lensmodel.specs.Files.TextLines.{pieces}

-- where each piece starts and ends, the first at a given place, with one separator between two
abbrev pub places : ℕ → List (List ℕ) → List (ℕ × ℕ)
places at [] = []
places at (p ∷ ps) = (at, at + length p) ∷ places (at + length p + 1) ps

-- the ranges that hold something
abbrev pub without_empty : List (ℕ × ℕ) → List (ℕ × ℕ)
without_empty [] = []
without_empty (r ∷ rs) = if nat_lt r.0 r.1 then r ∷ without_empty rs else without_empty rs

-- where each word that starts at a place or later starts and ends
unfoldable pub ranges_from : ℕ → List ℕ → List (ℕ × ℕ)
ranges_from at line = without_empty (places at (pieces (drop at line)))

-- where each word of a line starts and ends
unfoldable pub word_ranges : List ℕ → List (ℕ × ℕ)
word_ranges line = without_empty (places 0 (pieces line))
