use Rattle.std.specs.Int.{w128}
use Rattle.std.proofs.lemmas.Int.{to_z-of_z}
use Rattle.lensmodel.specs.Rows.Constants.{residual_units}
use Rattle.sagform.specs.ResidualLaws.{covers_residual}
use Rattle.skewtrace.specs.StartLaws.{start_rows-encloses}
use Rattle.skewtrace.proofs.start.start.Goals as goal

pub returns-clause-encloses : goal.returns-clause-encloses
returns-clause-encloses g c =
    let s = c.args.s.now in
    let scale = g.T.Arith.SCALE in
    rw (c.rows_of.ensures.exact, to_z-of_z w128 c.residual_units.result (record { sfits = c.residual_units.type_inv }), c.residual_units.ensures.value, c.SCALE.ensures)
    (start_rows-encloses scale g.T.Arith.ops g.T.Arith.member (g.met.T.Arith.lawful c.requires) s (residual_units scale s.res) (covers_residual scale s.res)
    c.args.q.now c.rows_of.ensures.parts)
