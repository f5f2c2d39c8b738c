use Rattle.std.proofs.Common.{◌≡◌, ℕ, ◌-◌, List, map, ap, ◌∙◌}
use Rattle.fixdec.specs.IntervalOperations.{operations}
use Rattle.lensmodel.specs.Paraxial.SeidelRows.{contributions, five}
use Rattle.lensmodel.specs.Rows.Constants.{residual_units}
use Rattle.lensmodel.specs.Setup.Values.{image}
use Rattle.seidel.specs.Surfaces.{in_short}
use Rattle.seidel.specs.Wholes.{whole_of}
use Rattle.seidel.proofs.attempt.of_rays.Goals as goal

pub returns-clause-out : goal.returns-clause-out
returns-clause-out g c =
    let s = c.args.s.now in
    let scale = g.row.S in
    let o = operations g.row.S in
    let all = map in_short (contributions o scale s (residual_units scale s.res) 0 c.args.marginal.now c.args.chief.now) in
    let list : c.as_slice-all.result.now ≡ all = c.as_slice-all.ensures.value ∙ c.surfaces_of-surfaces.ensures in
    let number : c.len.result - 1 ≡ image s = ap (λ (n : ℕ). n - 1) c.len.ensures.value in
    let whole : c.whole_of-whole.result ≡ whole_of o (image s) all = c.whole_of-whole.ensures ∙ (λ i. whole_of o (number i) (list i)) in
    c.out_of.ensures
    ∙ (λ i. record { scale = scale; per = record { items = map (λ d. five o scale d.sums) (list i) }; whole = five o scale (whole i).sums })
