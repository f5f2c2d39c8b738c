use Rattle.std.proofs.Common.{rules}
use Rattle.fixdec.specs.Algebra.RoundingLaws.{ceil_at}
use Rattle.fixdec.proofs.div.ceil_div.Goals as goal

pub returns-clause-value : goal.returns-clause-value
returns-clause-value c = let v = c.floor_div.ensures.value in search rules

pub returns-clause-exact : goal.returns-clause-exact
returns-clause-exact c = ceil_at c.args.a c.args.b _ c.requires.nonzero (returns-clause-value c)
