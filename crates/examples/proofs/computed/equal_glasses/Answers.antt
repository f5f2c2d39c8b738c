use Rattle.examples.proofs.ComputedEdges.{equal_glass, equal_in_box, tolerant_before, tolerant_behind}
use Rattle.examples.proofs.computed.equal_glasses.Goals as goal

pub returns-clause-stays : goal.returns-clause-stays
returns-clause-stays c = equal_glass

pub returns-clause-boxed : goal.returns-clause-boxed
returns-clause-boxed c = equal_in_box

pub returns-clause-before : goal.returns-clause-before
returns-clause-before c = tolerant_before

pub returns-clause-behind : goal.returns-clause-behind
returns-clause-behind c = tolerant_behind
