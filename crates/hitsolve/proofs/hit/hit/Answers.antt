use Rattle.std.specs.Int.{w128}
use Rattle.std.proofs.lemmas.Int.{to_z-of_z}
use Rattle.hitsolve.specs.Encloses.{aspheres-close, hit-encloses, standards-close}
use Rattle.hitsolve.proofs.hit.hit.Goals as goal

pub returns-clause-encloses : goal.returns-clause-encloses
returns-clause-encloses g c =
    rw (c.hit_rows.ensures.value, to_z-of_z w128 c.args.e c.ranges.e)
    (hit-encloses g.T.Arith.SCALE g.T.Arith.ops g.T.Arith.member (g.met.T.Arith.lawful c.requires.scale) c.args.f.now c.args.r.now c.args.e
    (rw (to_z-of_z w128 c.args.e c.ranges.e) at c.hit_rows.ensures.cap) c.hit_rows.ensures.side)

pub returns-clause-close : goal.returns-clause-close
returns-clause-close g c =
    standards-close g.T.Arith.SCALE g.T.Arith.ops g.T.Arith.member (g.met.T.Arith.lawful c.requires.scale) c.args.f.now c.args.r.now c.args.e
    (rw (to_z-of_z w128 c.args.e c.ranges.e) at c.hit_rows.ensures.cap) c.hit_rows.ensures.side

pub returns-clause-close_asphere : goal.returns-clause-close_asphere
returns-clause-close_asphere g c =
    aspheres-close g.T.Arith.SCALE g.T.Arith.ops g.T.Arith.member (g.met.T.Arith.lawful c.requires.scale) c.args.f.now c.args.r.now c.args.e
    (rw (to_z-of_z w128 c.args.e c.ranges.e) at c.hit_rows.ensures.cap) c.hit_rows.ensures.side
