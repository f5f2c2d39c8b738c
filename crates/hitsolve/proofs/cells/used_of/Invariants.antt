use Rattle.std.proofs.Common.{◌≤◌}
use Rattle.hitsolve.specs.Used.{AreNoneFrom}
use Rattle.hitsolve.proofs.cells.used_of.Given as goal

-- past `used` each span so far is that of 0
abbrev pub invariant-loop-used : goal.invariant-loop-used
invariant-loop-used l = (l.used ≤ 8) × AreNoneFrom l.used l.all

abbrev pub decreases-loop-used : goal.decreases-loop-used
decreases-loop-used l = l.used
