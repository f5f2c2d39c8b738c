use Rattle.std.proofs.Common.{ap, ◌∙◌}
use Rattle.enclose.specs.IvLaws.{iv_member, iv_lawful}
use Rattle.fixdec.specs.IntervalOperations.{operations}
use Rattle.lensmodel.specs.Paraxial.Losses.{Attempt}
use Rattle.lensmodel.specs.Rows.Constants.{residual_units}
use Rattle.lensmodel.specs.declared.paraxial.SeidelOut.{SeidelOut}
use Rattle.sagform.specs.ResidualLaws.{covers_residual}
use Rattle.seidel.proofs.Attempts.{rays-give, rays-enclose}
use Rattle.seidel.proofs.sums.attempt.Goals as goal

pub returns-clause-out : goal.returns-clause-out
returns-clause-out g c =
    let s = c.args.s.now in
    let scale = g.row.S in
    c.of_rays.ensures.out
    ∙ ap (λ (a : Attempt SeidelOut). a.out) (rays-give (operations g.row.S) scale s (residual_units scale s.res) c.args.y.now c.args.u.now c.args.yb.now c.args.ub.now
    c.ray_through-marginal.result c.ray_through-chief.result c.ray_through-marginal.ensures.exact c.ray_through-chief.ensures.exact)

pub returns-clause-by_range : goal.returns-clause-by_range
returns-clause-by_range g c =
    let s = c.args.s.now in
    let scale = g.row.S in
    c.of_rays.ensures.by_range
    ∙ ap (λ (a : Attempt SeidelOut). a.by_range) (rays-give (operations g.row.S) scale s (residual_units scale s.res) c.args.y.now c.args.u.now c.args.yb.now c.args.ub.now
    c.ray_through-marginal.result c.ray_through-chief.result c.ray_through-marginal.ensures.exact c.ray_through-chief.ensures.exact)

pub returns-clause-encloses : goal.returns-clause-encloses
returns-clause-encloses g c =
    let s = c.args.s.now in
    let scale = g.row.S in
    rays-enclose (operations g.row.S) scale s (residual_units scale s.res) c.args.y.now c.args.u.now c.args.yb.now c.args.ub.now
    c.ray_through-marginal.result c.ray_through-chief.result c.ray_through-marginal.ensures.exact c.ray_through-chief.ensures.exact
    (iv_member scale) (iv_lawful scale) (covers_residual scale s.res)
    c.ray_through-marginal.ensures.encloses c.ray_through-chief.ensures.encloses _ c.of_rays.ensures.out
