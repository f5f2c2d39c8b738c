use Rattle.std.proofs.Common.{sym, ◌∙◌}
use Rattle.std.proofs.lemmas.Int.{to_z-of_z}
use Rattle.std.specs.Int.{w128}
use Rattle.hitsolve.specs.Narrowed.{meet_is}
use Rattle.hitsolve.proofs.asphere.meet.Goals as goal

pub returns : goal.returns
returns g c =
    (rw (to_z-of_z w128 c.args.e c.ranges.e) at c.narrowed_down.ensures) ∙ sym (meet_is g.T.Arith.ops g.T.Arith.SCALE c.args.f.now c.args.line c.args.e)
