use Rattle.examples.proofs.ComputedEdges.{bound_met, bound_passed}
use Rattle.examples.proofs.computed.bounds_turn.Goals as goal

pub returns-clause-met : goal.returns-clause-met
returns-clause-met c = bound_met

pub returns-clause-passed : goal.returns-clause-passed
returns-clause-passed c = bound_passed
