use Rattle.examples.proofs.Fronts.{reaches_next}
use Rattle.examples.proofs.laws.chain_fronts.Goals as goal

pub returns-clause-next : goal.returns-clause-next
returns-clause-next c = reaches_next
