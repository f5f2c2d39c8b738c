use Rattle.std.proofs.Common.{◌≡◌, ◌≤◌}
use Rattle.lensmodel.specs.Setup.Values as values
use Rattle.prescript.proofs.media.owner.Given as goal

abbrev pub invariant-loop-last : goal.invariant-loop-last
invariant-loop-last l = (l.last ≤ l.j) × (values.owner l.s l.j ≡ values.owner l.s l.last)

abbrev pub decreases-loop-last : goal.decreases-loop-last
decreases-loop-last l = l.last
