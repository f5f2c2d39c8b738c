use Rattle.examples.proofs.PrescriptionExamples.{wide_zone, small_zone, no_zones, norms}
use Rattle.examples.proofs.definitions.zones.Goals as goal

pub returns-clause-wide : goal.returns-clause-wide
returns-clause-wide c = wide_zone

pub returns-clause-small : goal.returns-clause-small
returns-clause-small c = small_zone

pub returns-clause-none : goal.returns-clause-none
returns-clause-none c = no_zones

pub returns-clause-norms : goal.returns-clause-norms
returns-clause-norms c = norms
