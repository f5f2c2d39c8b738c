use Rattle.std.proofs.Common.{◌≡◌, ◌+◌}
use Rattle.skewtrace.specs.Goings.{Reaches}
use Rattle.skewtrace.proofs.trace.walk.Given as goal

abbrev pub invariant-loop-j : goal.invariant-loop-j
invariant-loop-j g l =
    Reaches g.T.Arith.ops g.T.Arith.SCALE g.T.Arith.member l.s l.fn.start l.row.word l.row.places.items l.j l.ray
    × (l.steps + 1 ≡ l.initial.steps + l.j)
