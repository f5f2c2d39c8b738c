use Rattle.std.proofs.Common.{arith}
use Rattle.lensmodel.specs.Rows.Constants.{residual_units}
use Rattle.enclose.specs.IvLaws.{iv_member, iv_lawful}
use Rattle.fixdec.specs.IntervalOperations.{operations}
use Rattle.firstorder.proofs.Counts.{well_count}
use Rattle.firstorder.proofs.Onwards.{ray_rows-hold, ray_rows-length}
use Rattle.sagform.specs.ResidualLaws.{covers_residual}
use Rattle.firstorder.proofs.ray.ray_through.Goals as goal

pub returns-clause-count : goal.returns-clause-count
returns-clause-count g c =
    let s = c.args.s.now in
    let scale = g.row.S in
    let few = well_count s c.requires.well in
    let count = ray_rows-length (operations scale) scale s (residual_units scale s.res) c.args.ray c.args.y.now c.args.u.now in
    rw c.rows_of.ensures.exact (omega (arith, count, few))

pub returns-clause-encloses : goal.returns-clause-encloses
returns-clause-encloses g c symbols index r indices h =
    let s = c.args.s.now in
    let scale = g.row.S in
    let few = well_count s c.requires.well in
    rw c.rows_of.ensures.exact
    (ray_rows-hold scale (operations scale) (iv_member scale) (iv_lawful scale) s c.requires.well
    (residual_units scale s.res) (covers_residual scale s.res) symbols index indices r c.args.ray c.args.y.now c.args.u.now (omega (arith, few)) h)
