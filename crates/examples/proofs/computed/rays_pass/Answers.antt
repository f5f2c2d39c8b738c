use Rattle.examples.proofs.ComputedRows.{slanted_plane, sphere_height, glass_axis, mirror_focus, near}
use Rattle.examples.proofs.computed.rays_pass.Goals as goal

pub returns-clause-plane : goal.returns-clause-plane
returns-clause-plane c = slanted_plane

pub returns-clause-sphere : goal.returns-clause-sphere
returns-clause-sphere c = sphere_height

pub returns-clause-glass : goal.returns-clause-glass
returns-clause-glass c = glass_axis

pub returns-clause-mirror : goal.returns-clause-mirror
returns-clause-mirror c = mirror_focus

pub returns-clause-near : goal.returns-clause-near
returns-clause-near c = near
