use Rattle.lensmodel.specs.Rows.Constants.{residual_units}
use Rattle.enclose.specs.IvLaws.{iv_member, iv_lawful}
use Rattle.fixdec.specs.IntervalOperations.{operations}
use Rattle.firstorder.proofs.Counts.{well_count}
use Rattle.firstorder.proofs.Firsts.{first_attempt-holds, no_symbols}
use Rattle.sagform.specs.ResidualLaws.{covers_residual}
use Rattle.firstorder.proofs.first.values_at_scale.Goals as goal

pub returns-clause-encloses : goal.returns-clause-encloses
returns-clause-encloses g c chain h =
    let s = c.args.s.now in
    let scale = g.row.S in
    rw c.rows_of.ensures.out
    (first_attempt-holds scale (operations scale) (iv_member scale) (iv_lawful scale) s c.requires.well
    (residual_units scale s.res) (covers_residual scale s.res) no_symbols c.args.y.now c.args.u.now chain (well_count s c.requires.well) h)
