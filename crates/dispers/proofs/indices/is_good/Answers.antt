use Rattle.fixdec.specs.IntervalOperations.{operations}
use Rattle.dispers.proofs.indices.is_good.Goals as goal

pub returns-in-Val : goal.returns-in-Val
unfolding operations
returns-in-Val c = rw (c.in-Val.is, ← c.hull.ensures) c.is_from_1_to_5.ensures
