use Rattle.std.proofs.Common.{◌≡◌}
use Rattle.spotfan.proofs.tally.tests.a_grid_that_passes.Given as goal

abbrev pub invariant-loop-x : goal.invariant-loop-x
invariant-loop-x g l = l.tally.rows ≡ l.x-index
