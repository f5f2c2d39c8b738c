use Rattle.std.proofs.Common.{sym, ◌∙◌}
use Rattle.fixdec.specs.IntervalOperations.{operations}
use Rattle.sagform.specs.Polynomials.{polynomial_is}
use Rattle.hitsolve.proofs.cells.polynomial.Goals as goal

pub returns : goal.returns
returns c = c.last_value.ensures ∙ sym (polynomial_is (operations c.args.k.now.scale) c.args.k.now.scale c.args.u c.args.k.now.face.b)
