use Rattle.examples.proofs.FirstOrderExamples.{sphere_sums, paraboloid_sums, doublet_sums, high_sums, mangin_sums}
use Rattle.examples.proofs.definitions.seidel_sums.Goals as goal

pub returns-clause-sphere : goal.returns-clause-sphere
returns-clause-sphere c = sphere_sums

pub returns-clause-paraboloid : goal.returns-clause-paraboloid
returns-clause-paraboloid c = paraboloid_sums

pub returns-clause-doublet : goal.returns-clause-doublet
returns-clause-doublet c = doublet_sums

pub returns-clause-high : goal.returns-clause-high
returns-clause-high c = high_sums

pub returns-clause-mangin : goal.returns-clause-mangin
returns-clause-mangin c = mangin_sums
