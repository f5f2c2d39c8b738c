-- A fraction of a decimal: cited by the launches of a job and by the start of a ray.
use Rattle.std.specs.Prelude.{ℕ}
use Rattle.fixdec.specs.Decimal.{Decimal}

-- num / den, den being at least 1
pub record Ratio : Type 0 where
  pub num : Decimal
  pub den : ℕ
