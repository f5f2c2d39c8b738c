use Rattle.examples.proofs.SpotExamples.{grid_statistics, mixed_statistics, far_statistics}
use Rattle.examples.proofs.definitions.spots.Goals as goal

pub returns-clause-grid : goal.returns-clause-grid
returns-clause-grid c = grid_statistics

pub returns-clause-mixed : goal.returns-clause-mixed
returns-clause-mixed c = mixed_statistics

pub returns-clause-far : goal.returns-clause-far
returns-clause-far c = far_statistics
