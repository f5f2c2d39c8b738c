-- A file by its lines.
use Rattle.std.specs.Prelude.{ℕ, List, [], ◌∷◌, ◌++◌, flat_map}

-- the bytes of a file: each line and a line feed
abbrev pub file : List (List ℕ) → List ℕ
file lines = flat_map (λ line. line ++ 10 ∷ []) lines
