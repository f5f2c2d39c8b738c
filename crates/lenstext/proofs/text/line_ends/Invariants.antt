use Rattle.std.proofs.Common.{◌+◌, ◌-◌, length}
use Rattle.lenstext.proofs.Cutting.{Kept}
use Rattle.lenstext.proofs.text.line_ends.Given as goal

abbrev pub invariant-loop-start : goal.invariant-loop-start
invariant-loop-start l = Kept l.units l.ends.items l.start

abbrev pub decreases-loop-start : goal.decreases-loop-start
decreases-loop-start l = length l.units + 1 - l.start
