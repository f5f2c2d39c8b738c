use Rattle.std.proofs.Common.{◌∙◌}
use Rattle.ladder.specs.Climbs.{climb-with_box, climb-without_box}
use Rattle.ladder.proofs.bench.Bench.row_into.Goals as goal

pub returns-in-None-clause-exact : goal.returns-in-None-clause-exact
returns-in-None-clause-exact c = c.row_into.ensures.exact ∙ climb-without_box c.args.s.now c.args.q.now c.in-None.is

pub returns-in-Some-clause-exact : goal.returns-in-Some-clause-exact
returns-in-Some-clause-exact c = c.row_into-in-Some.ensures.exact ∙ climb-with_box c.in-Some.field-0 c.args.s.now c.args.q.now c.in-Some.is
