use Rattle.examples.proofs.PrescriptionExamples.{folded, equal}
use Rattle.examples.proofs.definitions.media.Goals as goal

pub returns-clause-folded : goal.returns-clause-folded
returns-clause-folded c = folded

pub returns-clause-equal : goal.returns-clause-equal
returns-clause-equal c = equal
