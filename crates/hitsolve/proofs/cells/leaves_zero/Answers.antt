use Rattle.enclose.specs.Zeros.{iv_leaves_zero}
use Rattle.hitsolve.proofs.cells.leaves_zero.Goals as goal

pub returns : goal.returns
returns c = rw (← c.a.view_is) (iv_leaves_zero c.args._scale _ c.a.invariant.1 c.a.invariant.2)
