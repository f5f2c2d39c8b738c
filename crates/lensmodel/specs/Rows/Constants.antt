-- Written numbers as values of an arithmetic, and the units of the residual. Cited by all rows.
use Rattle.std.specs.Prelude.{ℕ, ℤ, pos, ◌-◌, ◌^◌, nat_le, if◌then◌else◌}
use Rattle.fixdec.specs.Decimal.{Decimal}
use Rattle.fixdec.specs.Operations.{Operations}
use Rattle.fixdec.specs.Scaled.{dec_span}
use Rattle.fixdec.specs.Steps.{◌>>=◌}
use Rattle.fixdec.specs.declared.step.Step.{Step}
use Rattle.fixdec.specs.declared.step.Step.TheVariants.{Val}

-- a decimal stands for the value of its span at the scale
abbrev pub decimal_row : {A : Type 0} → Operations A → ℕ → Decimal → Step A
decimal_row o scale d = do
  Val (o.of_span (← dec_span scale d))

-- a whole number stands for the value of its span at the scale
abbrev pub whole_row : {A : Type 0} → Operations A → ℕ → ℤ → Step A
whole_row o scale n = decimal_row o scale (record { mant = n; exp = pos 0 })

-- the residual 10^-r in units of the scale, or one unit where it is less
abbrev pub residual_units : ℕ → ℕ → ℤ
residual_units scale r = if nat_le r scale then pos (10 ^ (scale - r)) else pos 1
