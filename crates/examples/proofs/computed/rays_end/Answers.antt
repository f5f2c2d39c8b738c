use Rattle.examples.proofs.ComputedRows.{past_sphere, behind_equator, total_reflection}
use Rattle.examples.proofs.computed.rays_end.Goals as goal

pub returns-clause-outside : goal.returns-clause-outside
returns-clause-outside c = past_sphere

pub returns-clause-behind : goal.returns-clause-behind
returns-clause-behind c = behind_equator

pub returns-clause-reflected : goal.returns-clause-reflected
returns-clause-reflected c = total_reflection
