use Rattle.examples.proofs.ComputedTies.{touching, at_zero, of_window}
use Rattle.examples.proofs.computed.ties.Goals as goal

pub returns-clause-touching : goal.returns-clause-touching
returns-clause-touching c = touching

pub returns-clause-at_zero : goal.returns-clause-at_zero
returns-clause-at_zero c = at_zero

pub returns-clause-of_window : goal.returns-clause-of_window
returns-clause-of_window c = of_window
