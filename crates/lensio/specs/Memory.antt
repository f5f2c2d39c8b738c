-- Files in memory.
use Rattle.std.specs.Prelude.{◌≡◌, ℕ, ◌≤◌, List, [], ◌∷◌, length, map, drop, slice_get, nat_eq, if◌then◌else◌, Option, None, Some, IsSomeAnd, Vec}
use Rattle.std.specs.declared.alloc.Global.{Global}
use Rattle.std.specs.Cmp.Lexicographic.{pointwise}
use Rattle.std.specs.Option.{option_map_or}

-- the bytes of the first file of that name
abbrev pub first_named : List (List ℕ × List ℕ) → List ℕ → Option (List ℕ)
first_named [] name = None
first_named (file ∷ files) name = if pointwise nat_eq file.0 name then Some file.1 else first_named files name

-- names and bytes, wherever they lie
abbrev pub files_in : List (Vec ℕ Global × Vec ℕ Global) → List (List ℕ × List ℕ)
files_in files = map (λ file. (file.0.items, file.1.items)) files

-- what is left of the chosen file behind a place in it
abbrev pub left_in : List (Vec ℕ Global × Vec ℕ Global) → Option ℕ → ℕ → List ℕ
left_in files None at = []
left_in files (Some i) at = option_map_or (λ file. drop at file.1.items) (slice_get files i) []

-- the place lies in the chosen file
abbrev pub IsPlace : List (Vec ℕ Global × Vec ℕ Global) → Option ℕ → ℕ → Type 0
IsPlace files None at = at ≡ 0
IsPlace files (Some i) at = IsSomeAnd (slice_get files i) (λ file. at ≤ length file.1.items)
