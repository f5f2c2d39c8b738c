use Rattle.std.proofs.Common.{sym, ◌∙◌}
use Rattle.sagform.specs.Polynomials.{polynomial_is}
use Rattle.sagform.proofs.sag.polynomial.Goals as goal

pub returns : goal.returns
returns g c = c.last_value.ensures ∙ sym (polynomial_is g.T.Arith.ops g.T.Arith.SCALE c.args.u c.args.b.now)
