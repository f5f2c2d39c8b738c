use Rattle.examples.proofs.Mirrors.{turns_at_mirrors, stays_elsewhere, mirrors_keep_medium, mirrors_keep_index}
use Rattle.examples.proofs.laws.mirrors_turn_travel.Goals as goal

pub returns-clause-turns : goal.returns-clause-turns
returns-clause-turns c = turns_at_mirrors

pub returns-clause-stays : goal.returns-clause-stays
returns-clause-stays c = stays_elsewhere

pub returns-clause-medium : goal.returns-clause-medium
returns-clause-medium c = mirrors_keep_medium

pub returns-clause-index : goal.returns-clause-index
returns-clause-index c = mirrors_keep_index
