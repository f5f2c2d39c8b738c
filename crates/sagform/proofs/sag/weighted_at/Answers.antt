use Rattle.sagform.specs.Used.{weighted_none}
use Rattle.sagform.proofs.sag.weighted_at.Goals as goal

pub returns-then-used-i-clause-value : goal.returns-then-used-i-clause-value
returns-then-used-i-clause-value g c =
    weighted_none g.T.Arith.ops g.T.Arith.SCALE (g.met.T.Arith.number_leaves_zero c.requires.scale) c.args.i c.args.b c.requires.index c.requires.scale
    (c.requires.none c.if-used-i.true)
