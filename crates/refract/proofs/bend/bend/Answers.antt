use Rattle.std.specs.Int.{w128}
use Rattle.std.proofs.lemmas.Int.{to_z-of_z}
use Rattle.refract.specs.BendLaws.{bend_rows-encloses}
use Rattle.refract.proofs.bend.bend.Goals as goal

pub returns-clause-encloses : goal.returns-clause-encloses
returns-clause-encloses g c =
    rw (c.rows_of.ensures.exact, to_z-of_z w128 c.args.e c.ranges.e)
    (bend_rows-encloses g.T.Arith.SCALE g.T.Arith.ops g.T.Arith.member (g.met.T.Arith.lawful c.requires.scale) c.args.f.now c.args.r.now c.args.h.now c.args.e
    (rw (to_z-of_z w128 c.args.e c.ranges.e) at c.rows_of.ensures.kept))
