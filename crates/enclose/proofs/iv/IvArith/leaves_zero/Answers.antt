use Rattle.enclose.specs.Zeros.{iv_leaves_zero}
use Rattle.enclose.proofs.iv.IvArith.leaves_zero.Goals as goal

pub returns : goal.returns
returns g c = iv_leaves_zero g.row.S c.args.self.now (rw (← c.self.view_is, ← c.self-inside.view_is) c.self-inside.invariant.1) (rw (← c.self.view_is, ← c.self-inside.view_is) c.self-inside.invariant.2)
