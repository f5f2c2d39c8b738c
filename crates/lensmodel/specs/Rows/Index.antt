-- The rows of the index, in the order in which they are evaluated, over the operations of any arithmetic.
-- Cited by the index, by the preparation and by the cross checks.
use Rattle.std.specs.Prelude.{ℕ, ℤ, pos, nat_eq, if◌then◌else◌}
use Rattle.fixdec.specs.Decimal.{Decimal}
use Rattle.fixdec.specs.Ends.{Ends}
use Rattle.fixdec.specs.Operations.{Operations}
use Rattle.fixdec.specs.Steps.{◌>>=◌}
use Rattle.fixdec.specs.declared.step.Step.{Step}
use Rattle.lensmodel.specs.Rows.Constants.{decimal_row, whole_row}
use Rattle.lensmodel.specs.declared.glass.Glass.{Glass}
use Rattle.lensmodel.specs.declared.glass.Medium.{Medium}
use Rattle.lensmodel.specs.declared.glass.Medium.TheVariants.{Air, Of}

-- Schott: r = 1/v, h4 = (a5*r) + a4, h3 = (h4*r) + a3, h2 = (h3*r) + a2, f = (a0 + (a1*v)) + (h2*r)
abbrev pub schott_rows : {A : Type 0} → Operations A → ℕ → Glass → A → Step A
schott_rows o scale g v = do
  r ← o.over (← whole_row o scale (pos 1)) v
  h4 ← o.plus (← o.times (← decimal_row o scale g.c5) r) (← decimal_row o scale g.c4)
  h3 ← o.plus (← o.times h4 r) (← decimal_row o scale g.c3)
  h2 ← o.plus (← o.times h3 r) (← decimal_row o scale g.c2)
  o.plus (← o.plus (← decimal_row o scale g.c0) (← o.times (← decimal_row o scale g.c1) v)) (← o.times h2 r)

-- a term of Sellmeier 1: K*(v/(v - L))
abbrev pub resonance_row : {A : Type 0} → Operations A → ℕ → Decimal → Decimal → A → Step A
resonance_row o scale k l v = do
  o.times (← decimal_row o scale k) (← o.over v (← o.minus v (← decimal_row o scale l)))

-- Sellmeier 1: f = ((1 + t1) + t2) + t3
abbrev pub sellmeier_rows : {A : Type 0} → Operations A → ℕ → Glass → A → Step A
sellmeier_rows o scale g v = do
  t1 ← resonance_row o scale g.c0 g.c1 v
  t2 ← resonance_row o scale g.c2 g.c3 v
  t3 ← resonance_row o scale g.c4 g.c5 v
  o.plus (← o.plus (← o.plus (← whole_row o scale (pos 1)) t1) t2) t3

-- f of the glass: 1 is Schott, every other number Sellmeier 1
abbrev pub formula_rows : {A : Type 0} → Operations A → ℕ → Glass → A → Step A
formula_rows o scale g v = if nat_eq g.formula 1 then schott_rows o scale g v else sellmeier_rows o scale g v

-- n: exactly 1 of air, else v = sq(lambda), n = rt(wd(f))
unfoldable pub index_rows : {A : Type 0} → Operations A → ℕ → Medium → Ends → ℤ → Step A
index_rows o scale Air wave e = whole_row o scale (pos 1)
index_rows o scale (Of g) wave e = do
  v ← o.square (o.of_span wave)
  f ← formula_rows o scale g v
  o.root (← o.widen f e)
