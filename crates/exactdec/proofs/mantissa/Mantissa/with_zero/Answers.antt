use Rattle.exactdec.proofs.Mantissas.{kept_of_leading, kept_of_trailing}
use Rattle.std.proofs.Common.{arith}
use Rattle.exactdec.proofs.mantissa.Mantissa.with_zero.Goals as goal

pub returns-then-self-eq0-clause-holds : goal.returns-then-self-eq0-clause-holds
returns-then-self-eq0-clause-holds c = λ ds h. kept_of_leading _ _ _ ds c.if-self-eq0.true h

pub returns-clause-holds : goal.returns-clause-holds
returns-clause-holds c = λ ds h. kept_of_trailing _ _ _ ds (let some = c.if-self-eq0.false in omega arith) h
