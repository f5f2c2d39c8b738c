use Rattle.std.specs.Int.{w128}
use Rattle.std.proofs.lemmas.Int.{to_z-of_z}
use Rattle.sagform.specs.SagLaws.{normal_rows-encloses}
use Rattle.sagform.proofs.sag.normal.Goals as goal

pub returns-clause-encloses : goal.returns-clause-encloses
returns-clause-encloses g c =
    rw (c.normal_rows.ensures, to_z-of_z w128 c.args.e c.ranges.e)
    (normal_rows-encloses g.T.Arith.SCALE g.T.Arith.ops g.T.Arith.member (g.met.T.Arith.lawful c.requires.scale) c.args.f.now c.args.h.now c.args.e)
