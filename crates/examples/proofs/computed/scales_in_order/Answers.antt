use Rattle.examples.proofs.ComputedRows.{farther_image, far_image, less_far_image, finest_passes, farthest_image, sphere_edge, grazing_ray, start_lost}
use Rattle.examples.proofs.computed.scales_in_order.Goals as goal

pub returns-clause-first_alone : goal.returns-clause-first_alone
returns-clause-first_alone c = farther_image

pub returns-clause-up_to_second : goal.returns-clause-up_to_second
returns-clause-up_to_second c = far_image

pub returns-clause-up_to_third : goal.returns-clause-up_to_third
returns-clause-up_to_third c = less_far_image

pub returns-clause-last_alone : goal.returns-clause-last_alone
returns-clause-last_alone c = finest_passes

pub returns-clause-farthest : goal.returns-clause-farthest
returns-clause-farthest c = farthest_image

pub returns-clause-edge : goal.returns-clause-edge
returns-clause-edge c = sphere_edge

pub returns-clause-grazing : goal.returns-clause-grazing
returns-clause-grazing c = grazing_ray

pub returns-clause-start : goal.returns-clause-start
returns-clause-start c = start_lost
