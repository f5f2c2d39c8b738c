-- The ends of an interval of raw numbers, and the cap on their size.
use Rattle.std.specs.Prelude.{ℤ, ◌≤◌, unsigned_abs}

-- a least and a greatest raw number
pub record Ends : Type 0 where
  pub lo : ℤ
  pub hi : ℤ

-- the size of z is at most CAP, ten to the eighteenth
abbrev pub InCap : ℤ → Type 0
InCap z = unsigned_abs z ≤ 1_000_000_000_000_000_000
