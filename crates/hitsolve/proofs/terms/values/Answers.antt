use Rattle.std.proofs.Common.{sym, ◌∙◌}
use Rattle.hitsolve.specs.Quotients.{values_are}
use Rattle.hitsolve.proofs.terms.values.Goals as goal

pub returns-clause-value : goal.returns-clause-value
returns-clause-value g c = c.values_down.ensures.value ∙ sym (values_are g.T.Arith.ops g.T.Arith.SCALE c.args.u c.args.b.now)
