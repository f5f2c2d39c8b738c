use Rattle.std.proofs.Common.{◌≡◌, ◌≤◌, drop, length}
use Rattle.fixdec.specs.IntervalOperations.{operations}
use Rattle.lensmodel.specs.Rows.Preparation.{with_symbol_from}
use Rattle.lensmodel.specs.declared.tolerance.TolKind.TheVariants.{Indx}
use Rattle.dispers.proofs.tolerances.with_index_tolerance.Given as goal

abbrev pub invariant-loop-i : goal.invariant-loop-i
invariant-loop-i l = (l.i ≤ length l.list) × (with_symbol_from (operations 12) 12 0 l.list Indx l.j l.v ≡ with_symbol_from (operations 12) 12 l.i (drop l.i l.list) Indx l.j l.v)
