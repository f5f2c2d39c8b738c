use Rattle.examples.proofs.Rest.{reaches_alike, leaves_alike, clears_alike}
use Rattle.examples.proofs.laws.fractions_exchange.Goals as goal

pub returns-clause-reaches : goal.returns-clause-reaches
returns-clause-reaches c = reaches_alike

pub returns-clause-leaves : goal.returns-clause-leaves
returns-clause-leaves c = leaves_alike

pub returns-clause-clears : goal.returns-clause-clears
returns-clause-clears c = clears_alike
