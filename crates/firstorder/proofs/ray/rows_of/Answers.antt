use Rattle.std.proofs.Common.{◌≡◌, ◌-◌, ◌<◌, length-append, append-nil, refl, sym, ap, ◌∙◌, arith}
use Rattle.fixdec.specs.IntervalOperations.{operations}
use Rattle.firstorder.specs.Workings.{worked}
use Rattle.firstorder.proofs.Counts.{well_count}
use Rattle.firstorder.proofs.Onwards.{onwards-next}
use Rattle.lensmodel.specs.Paraxial.FirstOrderRows.{Passing, passing, ray_rows}
use Rattle.lensmodel.specs.Rows.Constants.{residual_units}
use Rattle.lensmodel.specs.Setup.Values.{image}
use Rattle.firstorder.proofs.ray.rows_of.Goals as goal

pub overflow_sub-before-end : goal.overflow_sub-before-end
overflow_sub-before-end g c = let n = well_count c.args.s.now c.requires.well in omega arith

pub loop-before-init : goal.loop-before-init
unfolding ray_rows
loop-before-init g c =
    let all : image c.args.s.now - 1 - 0 ≡ image c.args.s.now - 1 = omega arith in (
      rw c.new-list.ensures refl,
      omega arith,
      rw (c.new-list.ensures, c.of_step-height.ensures, c.of_step-slope.ensures, c.row_number.ensures, c.row_number-2.ensures, c.decimal.ensures, c.decimal-2.ensures, all) refl,
    )

pub loop-before-preserved : goal.loop-before-preserved
loop-before-preserved g c =
    let s = c.args.s.now in
    let o = operations g.row.S in
    let scale = g.row.S in
    let e = residual_units scale s.res in
    let n = well_count s c.requires.well in
    let i = c.loop-before.before in
    let xs = c.loop-before.list.items in
    let y = worked c.loop-before.height in
    let u = worked c.loop-before.slope in
    let here = passing o scale s e c.args.ray i y u in
    let below : i < image s - 1 = omega arith in
    let view = c.here.view_is ∙ c.pass-here.ensures in
    let next : worked c.here.inside.next ≡ here.next = ap (λ (p : Passing _). p.next) view in
    let behind : worked c.here.inside.behind ≡ here.behind = ap (λ (p : Passing _). p.behind) view in (
      rw c.push.ensures.items (simp length-append (omega arith)),
      omega arith,
      rw (c.push.ensures.items, c.pass-here.ensures, next, behind) (c.loop-before.invariant.2 ∙ onwards-next o scale s e c.args.ray (image s - 1) i y u xs below),
    )

pub returns-clause-room : goal.returns-clause-room
returns-clause-room g c =
    let size = c.loop-before.invariant.0 in
    let most = c.loop-before.invariant.1 in
    let fits = c.len.ensures.fits in
    let count = c.len.ensures.value in
    omega arith

pub returns-clause-exact : goal.returns-clause-exact
returns-clause-exact g c =
    let s = c.args.s.now in
    let n = well_count s c.requires.well in
    let none : image s - 1 - c.loop-before.before ≡ 0 = omega arith in
    sym (rw (none, append-nil) at c.loop-before.invariant.2)
