-- What contracts see of a shelf or a sink in memory.
use Rattle.std.specs.Prelude.{ℕ, ◌+◌, ◌-◌, ◌^◌, min, List, [], ◌++◌, length, drop, nat_le, if◌then◌else◌, Option, None, Some, is_some, unwrap_or, option_and_then}
use Rattle.lensio.specs.Count.{plus}
use Rattle.lensio.specs.Memory.{first_named}

-- a shelf that never fails: its files by name, the most bytes of a read, what is left of the chosen file, and its counts
pub record CalmFiles : Type 0 where
  pub files : List (List ℕ × List ℕ)
  pub piece : ℕ
  pub left : List ℕ
  pub absences : ℕ
  pub given : ℕ

-- it, after a file is chosen by its name
abbrev pub after_choice : CalmFiles → List ℕ → CalmFiles
after_choice shelf name =
    let found = first_named shelf.files name in
    record shelf {
      left = unwrap_or found [];
      absences = if is_some found then shelf.absences else plus shelf.absences 1;
    }

-- how many bytes a read into a buffer of this length gives
abbrev pub read_len : CalmFiles → ℕ → ℕ
read_len shelf len = min shelf.piece (min (length shelf.left) len)

-- it, after a read into a buffer of this length
abbrev pub after_read : CalmFiles → ℕ → CalmFiles
after_read shelf len =
    record shelf { left = drop (read_len shelf len) shelf.left; given = plus shelf.given (read_len shelf len) }

-- the number of the next call, from 1; no number in a u64 is the last
abbrev pub next_call : ℕ → ℕ
next_call calls = min (calls + 1) (2 ^ 128 - 1)

-- a shelf with calls that fail: the one without, the numbers of those calls, the number of calls so far, and its faults
pub record MemFiles : Type 0 where
  pub calm : CalmFiles
  pub fails : List ℕ
  pub calls : ℕ
  pub faults : ℕ

-- a sink that never fails: what it tells of the bytes taken, its room, and the most bytes that it takes at once
pub record CalmBytes : Type 0 where
  pub taken : Option (List ℕ)
  pub room : ℕ
  pub piece : ℕ

-- what fits the room is told
abbrev pub told_within : ℕ → List ℕ → Option (List ℕ)
told_within room bytes = if nat_le (length bytes) room then Some bytes else None

-- it, after these bytes came
abbrev pub after_bytes : CalmBytes → List ℕ → CalmBytes
after_bytes sink bytes =
    record sink { taken = option_and_then (λ taken. told_within sink.room (taken ++ bytes)) sink.taken }

-- a sink with calls that fail or take nothing: the one without, the numbers of both, the number of calls so far, and its faults
pub record MemBytes : Type 0 where
  pub calm : CalmBytes
  pub fails : List ℕ
  pub idle : List ℕ
  pub calls : ℕ
  pub faults : ℕ
