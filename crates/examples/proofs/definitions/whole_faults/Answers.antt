use Rattle.examples.proofs.PrescriptionExamples.{faults, coefficient_bound}
use Rattle.examples.proofs.definitions.whole_faults.Goals as goal

pub returns-clause-faults : goal.returns-clause-faults
returns-clause-faults c = faults

pub returns-clause-bound : goal.returns-clause-bound
returns-clause-bound c = coefficient_bound
