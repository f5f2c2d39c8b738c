use Rattle.fixdec.specs.IntervalOperations.{operations}
use Rattle.dispers.proofs.pick.with_index.Goals as goal

pub returns-in-Val : goal.returns-in-Val
unfolding operations
returns-in-Val c = rw (c.in-Val.is, ← c.hull.ensures) c.with_ends.ensures
