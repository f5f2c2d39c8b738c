use Rattle.forms.specs.FormZeros.{linear_leaves_zero}
use Rattle.forms.proofs.form.arith.FormArith.leaves_zero.Goals as goal

pub returns : goal.returns
returns g c = rw (← c.self.view_is) (linear_leaves_zero g.row.S _ c.self.invariant.kept)
