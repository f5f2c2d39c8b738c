use Rattle.examples.proofs.ComputedRows.{fan_ray, aimed_ray}
use Rattle.examples.proofs.computed.pupil_rays.Goals as goal

pub returns-clause-fan : goal.returns-clause-fan
returns-clause-fan c = fan_ray

pub returns-clause-aimed : goal.returns-clause-aimed
returns-clause-aimed c = aimed_ray
