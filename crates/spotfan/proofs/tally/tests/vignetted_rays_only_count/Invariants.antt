use Rattle.std.proofs.Common.{◌≡◌, ◌*◌}
use Rattle.spotfan.proofs.tally.tests.vignetted_rays_only_count.Given as goal

abbrev pub invariant-loop-x : goal.invariant-loop-x
invariant-loop-x g l = l.tally.rows ≡ 2 * l.x-index
