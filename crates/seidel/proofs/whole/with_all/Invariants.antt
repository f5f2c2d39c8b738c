use Rattle.std.proofs.Common.{◌≡◌, drop}
use Rattle.seidel.specs.Wholes.{with_all}
use Rattle.seidel.proofs.whole.with_all.Given as goal

abbrev pub invariant-loop-next : goal.invariant-loop-next
invariant-loop-next g l = with_all g.T.Arith.ops l.image l.fn.first l.more ≡ with_all g.T.Arith.ops l.image l.totals (drop l.next-index l.more)
