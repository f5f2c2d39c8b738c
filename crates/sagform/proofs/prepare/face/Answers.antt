use Rattle.std.proofs.Common.{◌-◌, arith}
use Rattle.lensmodel.specs.Rows.Constants.{residual_units}
use Rattle.sagform.specs.PreparationLaws.{preparation_rows-encloses}
use Rattle.sagform.specs.ResidualLaws.{covers_residual}
use Rattle.sagform.proofs.prepare.face.Goals as goal

pub returns-clause-encloses : goal.returns-clause-encloses
returns-clause-encloses g c =
    let s = c.args.s.now in
    let scale = g.T.Arith.SCALE in
    rw c.rows_of.ensures
    (preparation_rows-encloses scale g.T.Arith.ops g.T.Arith.member (g.met.T.Arith.lawful c.requires.scale) s c.requires.well
    (residual_units scale s.res) (covers_residual scale s.res) (c.args.j - 1) (omega arith))
