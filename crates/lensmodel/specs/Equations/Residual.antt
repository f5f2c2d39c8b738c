-- The residual: how far the two sides of an equation may lie apart. Cited by each equation.
use Rattle.std.specs.Prelude.{ℕ}
use Rattle.fixdec.specs.Decimal.{tenth_power}
use Rattle.fixdec.specs.Frac.{Frac, ◌≤Q◌, ◌+Q◌}

-- ten to the power -r
abbrev pub residual : ℕ → Frac
residual r = tenth_power r

-- a and b are equal within eps
pub record IsWithin (eps a b : Frac) : Type 0 where
  pub above : b ≤Q a +Q eps
  pub below : a ≤Q b +Q eps
