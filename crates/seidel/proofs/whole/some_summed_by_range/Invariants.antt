use Rattle.std.proofs.Common.{◌≡◌, drop}
use Rattle.seidel.specs.Wholes.{some_summed_by_range}
use Rattle.seidel.proofs.whole.some_summed_by_range.Given as goal

abbrev pub invariant-loop-one : goal.invariant-loop-one
invariant-loop-one g l = some_summed_by_range l.all ≡ some_summed_by_range (drop l.one-index l.all)
