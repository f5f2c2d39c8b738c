use Rattle.std.proofs.Common.{◌≡◌}
use Rattle.std.specs.Prelude.{pos, negsuc, if◌then◌else◌}
use Rattle.lensmodel.specs.Setup.Values as values
use Rattle.sagform.proofs.layout.travel.Given as goal

abbrev pub invariant-loop-i : goal.invariant-loop-i
invariant-loop-i l = values.travel l.s l.i ≡ (if l.onward then pos 1 else negsuc 0)
