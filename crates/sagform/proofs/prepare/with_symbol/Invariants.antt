use Rattle.std.proofs.Common.{◌≡◌, ◌≤◌, drop, length}
use Rattle.lensmodel.specs.Rows.Preparation as rows
use Rattle.sagform.proofs.prepare.with_symbol.Given as goal

abbrev pub invariant-loop-i : goal.invariant-loop-i
invariant-loop-i g l = (l.i ≤ length l.list) × (rows.with_symbol_from g.T.Arith.ops g.T.Arith.SCALE 0 l.list l.kind l.j l.v ≡ rows.with_symbol_from g.T.Arith.ops g.T.Arith.SCALE l.i (drop l.i l.list) l.kind l.j l.v)
