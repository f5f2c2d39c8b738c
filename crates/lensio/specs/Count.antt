-- Counts that rise, and stand still at the last value of a u64.
use Rattle.std.specs.Prelude.{ℕ, ◌+◌, ◌-◌, ◌^◌, ◌≤◌, min}

-- a count after n more
abbrev pub plus : ℕ → ℕ → ℕ
plus before n = min (before + n) (2 ^ 64 - 1)

-- the count rose by n or more, or stands at its last value
abbrev pub RoseBy : ℕ → ℕ → ℕ → Type 0
RoseBy n before now = plus before n ≤ now

-- the count rose, or stands at its last value
abbrev pub Rose : ℕ → ℕ → Type 0
Rose before now = RoseBy 1 before now
