use Rattle.std.proofs.Common.{◌≡◌, ◌≤◌, ◌++◌, drop, length}
use Rattle.std.specs.Prelude.{map}
use Rattle.fixdec.specs.IntervalOperations.{operations}
use Rattle.lensmodel.specs.Paraxial.SeidelRows.{contributions}
use Rattle.seidel.specs.Surfaces.{in_short}
use Rattle.seidel.proofs.whole.contributions.Given as goal

-- so many surfaces are there, and the others are left
abbrev pub invariant-loop-j : goal.invariant-loop-j
invariant-loop-j g l = record {
  count : length l.all.items ≡ l.j;
  within : l.j ≤ length l.marginal;
  rest : l.all.items ++ map in_short (contributions (operations g.row.S) g.row.S l.s l.e l.j (drop l.j l.marginal) (drop l.j l.chief))
      ≡ map in_short (contributions (operations g.row.S) g.row.S l.s l.e 0 l.marginal l.chief);
}
