use Rattle.std.proofs.Common.{◌-◌, arith}
use Rattle.lensmodel.specs.Rows.Constants.{residual_units}
use Rattle.firstorder.proofs.Advancing.{advance-member}
use Rattle.sagform.specs.ResidualLaws.{covers_residual}
use Rattle.firstorder.proofs.surface.advance.Goals as goal

pub returns-clause-encloses : goal.returns-clause-encloses
returns-clause-encloses g c symbols index height slope behind next indices hy hu h =
    let s = c.args.s.now in
    let scale = g.T.Arith.SCALE in
    rw c.rows_at.ensures
    (advance-member scale g.T.Arith.ops g.T.Arith.member (g.met.T.Arith.lawful c.requires.scale) s c.requires.well
    (residual_units scale s.res) (covers_residual scale s.res) symbols index indices (c.args.j - 1) (omega arith) c.args.y c.args.u height slope behind next hy hu h)
