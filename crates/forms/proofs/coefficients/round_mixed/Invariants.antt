use Rattle.forms.specs.Kept.{weighted}
use Rattle.forms.proofs.Rounds.{IsRounding}
use Rattle.forms.proofs.coefficients.round_mixed.Given as goal

abbrev pub invariant-loop-i : goal.invariant-loop-i
invariant-loop-i l = IsRounding l.by (weighted l.x l.ka l.y l.kb) l.out l.i l.used l.size l.remainders l.numerators
