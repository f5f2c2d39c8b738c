use Rattle.std.proofs.Common.{◌≡◌, ◌≤◌, ◌-◌, ◌++◌, length}
use Rattle.fixdec.specs.IntervalOperations.{operations}
use Rattle.firstorder.specs.Workings.{worked}
use Rattle.lensmodel.specs.Paraxial.FirstOrderRows.{ray_rows, onwards}
use Rattle.lensmodel.specs.Rows.Constants.{residual_units}
use Rattle.lensmodel.specs.Setup.Values.{image}
use Rattle.firstorder.proofs.ray.rows_of.Given as goal

abbrev pub invariant-loop-before : goal.invariant-loop-before
invariant-loop-before g l =
    let o = operations g.row.S in
    let scale = g.row.S in
    let e = residual_units scale l.s.res in
    (length l.list.items ≡ l.before) × (l.before ≤ image l.s - 1)
    × (ray_rows o scale l.s e l.ray l.y l.u ≡ l.list.items ++ onwards o scale l.s e l.ray (image l.s - 1 - l.before) l.before (worked l.height) (worked l.slope))
