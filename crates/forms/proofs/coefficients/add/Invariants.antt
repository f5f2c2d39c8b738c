use Rattle.std.specs.Prelude.{◌+ℤ◌}
use Rattle.fixdec.specs.Form.{coefficientwise}
use Rattle.forms.proofs.Filled.{IsFilled}
use Rattle.forms.proofs.coefficients.add.Given as goal

abbrev pub invariant-loop-i : goal.invariant-loop-i
invariant-loop-i l = IsFilled (coefficientwise ◌+ℤ◌ l.ka l.kb) l.out l.i l.used l.size
