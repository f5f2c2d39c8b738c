use Rattle.std.proofs.Common.{◌≡◌, length, take}
use Rattle.std.specs.Prelude.{map}
use Rattle.lensmodel.specs.Paraxial.SeidelRows.{five}
use Rattle.seidel.proofs.whole.fives.Given as goal

abbrev pub invariant-loop-one : goal.invariant-loop-one
invariant-loop-one g l = l.fives.items ≡ map (λ d. five g.T.Arith.ops g.T.Arith.SCALE d.sums) (take l.one-index l.all)
