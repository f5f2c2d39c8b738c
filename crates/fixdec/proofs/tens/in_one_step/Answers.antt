use Rattle.std.proofs.Common.{◌/◌, ◌∙◌, ap}
use Rattle.std.proofs.Math.Nat.{div-div-eq-div-mul}
use Rattle.fixdec.proofs.Steps.{within}
use Rattle.fixdec.proofs.tens.in_one_step.Goals as goal

pub returns : goal.returns
returns c =
    ap (λ m. m / c.args.odd) (within c.args.n c.args.low _ c.requires.factor c.requires.number)
    ∙ div-div-eq-div-mul c.args.n c.args.low c.args.odd
