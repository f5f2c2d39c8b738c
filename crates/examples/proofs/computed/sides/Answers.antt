use Rattle.examples.proofs.ComputedSides.{steep_mirror, two_mirrors, grazing_coarse}
use Rattle.examples.proofs.computed.sides.Goals as goal

pub returns-clause-mirror : goal.returns-clause-mirror
returns-clause-mirror c = steep_mirror

pub returns-clause-mirrors : goal.returns-clause-mirrors
returns-clause-mirrors c = two_mirrors

pub returns-clause-grazing : goal.returns-clause-grazing
returns-clause-grazing c = grazing_coarse
