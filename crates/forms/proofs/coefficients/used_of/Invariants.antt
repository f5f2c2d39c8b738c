use Rattle.std.proofs.Common.{◌≡◌, take}
use Rattle.forms.specs.Kept.{in_use}
use Rattle.forms.proofs.coefficients.used_of.Given as goal

abbrev pub invariant-loop-i : goal.invariant-loop-i
invariant-loop-i l = l.used ≡ in_use (take l.i l.ks)
