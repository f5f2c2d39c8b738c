use Rattle.std.proofs.Common.{◌≡◌, map, take}
use Rattle.fixdec.specs.IntervalOperations.{operations}
use Rattle.firstorder.proofs.Parts.{pair_at}
use Rattle.firstorder.proofs.ray.Track.trail.Given as goal

abbrev pub invariant-loop-p : goal.invariant-loop-p
invariant-loop-p g l = l.trail.items ≡ map (pair_at (operations g.row.S).hull) (take l.p-index l.list)
