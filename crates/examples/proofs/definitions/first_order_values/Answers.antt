use Rattle.examples.proofs.FirstOrderExamples.{plane_in_air, glass_sphere, mirror_focus, doublet_first, stop_at_object, stop_at_image, mangin_first, blocked_first, high_rays}
use Rattle.examples.proofs.definitions.first_order_values.Goals as goal

pub returns-clause-plane : goal.returns-clause-plane
returns-clause-plane c = plane_in_air

pub returns-clause-sphere : goal.returns-clause-sphere
returns-clause-sphere c = glass_sphere

pub returns-clause-mirror : goal.returns-clause-mirror
returns-clause-mirror c = mirror_focus

pub returns-clause-doublet : goal.returns-clause-doublet
returns-clause-doublet c = doublet_first

pub returns-clause-no_stop : goal.returns-clause-no_stop
returns-clause-no_stop c = stop_at_object

pub returns-clause-last_stop : goal.returns-clause-last_stop
returns-clause-last_stop c = stop_at_image

pub returns-clause-mangin : goal.returns-clause-mangin
returns-clause-mangin c = mangin_first

pub returns-clause-blocked : goal.returns-clause-blocked
returns-clause-blocked c = blocked_first

pub returns-clause-high : goal.returns-clause-high
returns-clause-high c = high_rays
