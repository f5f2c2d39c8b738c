use Rattle.examples.proofs.ComputedFolds.{folded_ray, folded_in_box, folded_coarse}
use Rattle.examples.proofs.computed.folded_rays.Goals as goal

pub returns-clause-intervals : goal.returns-clause-intervals
returns-clause-intervals c = folded_ray

pub returns-clause-forms : goal.returns-clause-forms
returns-clause-forms c = folded_in_box

pub returns-clause-coarse : goal.returns-clause-coarse
returns-clause-coarse c = folded_coarse
