use Rattle.examples.proofs.ComputedEdges.{rim_least_met, rim_least_passed, rim_greatest_met}
use Rattle.examples.proofs.computed.rims_turn.Goals as goal

pub returns-clause-least : goal.returns-clause-least
returns-clause-least c = rim_least_met

pub returns-clause-within : goal.returns-clause-within
returns-clause-within c = rim_least_passed

pub returns-clause-greatest : goal.returns-clause-greatest
returns-clause-greatest c = rim_greatest_met
