use Rattle.examples.proofs.Boxes.{curvature_written, distance_written, index_written}
use Rattle.examples.proofs.laws.written_values.Goals as goal

pub returns-clause-curvature : goal.returns-clause-curvature
returns-clause-curvature c = curvature_written

pub returns-clause-distance : goal.returns-clause-distance
returns-clause-distance c = distance_written

pub returns-clause-index : goal.returns-clause-index
returns-clause-index c = index_written
