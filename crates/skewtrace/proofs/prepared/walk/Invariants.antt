use Rattle.skewtrace.specs.Goings.{Reaches}
use Rattle.skewtrace.proofs.prepared.walk.Given as goal

abbrev pub invariant-loop-j : goal.invariant-loop-j
invariant-loop-j g l = Reaches g.T.Arith.ops g.T.Arith.SCALE g.T.Arith.member l.s l.fn.start l.row.word l.row.places.items l.j l.ray
