use Rattle.std.proofs.Common.{arith}
use Rattle.firstorder.proofs.Counts.{well_count}
use Rattle.firstorder.proofs.values.values_from.Goals as goal

pub overflow_sub-image : goal.overflow_sub-image
overflow_sub-image g c = let n = well_count c.args.s.now c.requires.well in omega arith
