use Rattle.fixdec.specs.Algebra.FracLaws.{≈_refl}
use Rattle.examples.proofs.Rest.{curvature_at_rest, distance_at_rest, index_at_rest}
use Rattle.examples.proofs.laws.values_at_rest.Goals as goal

pub returns-clause-rest : goal.returns-clause-rest
returns-clause-rest c = λ i. ≈_refl _

pub returns-clause-curvature : goal.returns-clause-curvature
returns-clause-curvature c = curvature_at_rest

pub returns-clause-distance : goal.returns-clause-distance
returns-clause-distance c = distance_at_rest

pub returns-clause-index : goal.returns-clause-index
returns-clause-index c = index_at_rest
