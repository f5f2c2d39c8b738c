use Rattle.std.proofs.Common.{◌∙◌}
use Rattle.dispers.proofs.Planes.{job_in_range}
use Rattle.dispers.proofs.join.tests.job.Goals as goal

pub returns : goal.returns
returns c = rw (c.from_vec.ensures ∙ c.new.ensures.items) (job_in_range c.args.wave c.requires)
