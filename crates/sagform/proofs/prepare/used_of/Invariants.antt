use Rattle.std.proofs.Common.{◌≤◌}
use Rattle.lensmodel.specs.Setup.Zones.{coefficient}
use Rattle.sagform.specs.Used.{AreWrittenZeroFrom}
use Rattle.sagform.proofs.prepare.used_of.Given as goal

-- past `used` each coefficient so far is written as 0
abbrev pub invariant-loop-used : goal.invariant-loop-used
invariant-loop-used l = (l.used ≤ 8) × AreWrittenZeroFrom l.used (coefficient l.f)

abbrev pub decreases-loop-used : goal.decreases-loop-used
decreases-loop-used l = l.used
