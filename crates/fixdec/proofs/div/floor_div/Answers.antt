use Rattle.std.proofs.Common.{rules}
use Rattle.fixdec.specs.Algebra.RoundingLaws.{floor_at}
use Rattle.fixdec.proofs.div.floor_div.Goals as goal

pub returns-then-b-le-GREATEST-clause-exact : goal.returns-then-b-le-GREATEST-clause-exact
returns-then-b-le-GREATEST-clause-exact c = floor_at c.args.a c.args.b _ c.requires.nonzero (search rules)

pub returns-then-b-lt0-clause-exact : goal.returns-then-b-lt0-clause-exact
returns-then-b-lt0-clause-exact c = floor_at c.args.a c.args.b _ c.requires.nonzero (search rules)

pub returns-else-b-clause-exact : goal.returns-else-b-clause-exact
returns-else-b-clause-exact c = floor_at c.args.a c.args.b _ c.requires.nonzero (search rules)
