use Rattle.examples.proofs.ComputedRows.{outside_rim, inside_rim, rim_tie}
use Rattle.examples.proofs.computed.rims_decide.Goals as goal

pub returns-clause-outside : goal.returns-clause-outside
returns-clause-outside c = outside_rim

pub returns-clause-inside : goal.returns-clause-inside
returns-clause-inside c = inside_rim

pub returns-clause-tie : goal.returns-clause-tie
returns-clause-tie c = rim_tie
