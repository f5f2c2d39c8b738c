-- Lines as the units of a file and the place where each line ends: at a line feed, or at the end of the file.
use Rattle.std.specs.Prelude.{ℕ, zero, suc, ◌+◌, ◌≤◌, List, [], ◌∷◌, slice_index, slice_range}

-- the pieces of a list that end at given places, the next one behind the unit there
abbrev pub cut : ℕ → List ℕ → List ℕ → List (List ℕ)
cut from units [] = []
cut from units (end ∷ ends) = slice_range units from end ∷ cut (suc end) units ends

-- no place goes back or leaves the list, and no piece has more than 4,096 units
abbrev pub Fits : ℕ → ℕ → List ℕ → Type 0
Fits from room [] = Unit {0}
Fits from room (end ∷ ends) = (from ≤ end) × (end ≤ from + 4096) × (end ≤ room) × Fits (suc end) room ends

-- where a piece starts, by its number: behind the end of the one before it
abbrev pub start_of : ℕ → List ℕ → ℕ → ℕ
start_of from ends zero = from
start_of from ends (suc i) = suc (slice_index ends i)
