use Rattle.std.proofs.Common.{◌^◌, ◌<◌, arith}
use Rattle.exactdec.proofs.Digits.{other_digit}
use Rattle.exactdec.proofs.Mantissas.{kept_of_other, with_digit_below}
use Rattle.exactdec.proofs.mantissa.Mantissa.with.Goals as goal

pub invariant_of-result : goal.invariant_of-result
invariant_of-result c = record {
  ordered = omega arith;
  bounded = λ l.
      let m = c.args.self in
      let fits : m.value < 10 ^ m.kept = m.bounded (let o = m.ordered in omega arith) in
      rw (c.value_with.ensures (omega arith)) (with_digit_below m.value m.kept m.seen c.args.digit fits m.ordered c.requires.digit);
}

pub returns-clause-holds : goal.returns-clause-holds
returns-clause-holds c = λ ds h.
    kept_of_other c.args.self.value c.args.self.kept c.args.self.seen c.args.digit c.value_with.result ds (other_digit c.args.digit c.if-digit-eq-ZERO.false) c.args.self.ordered c.value_with.ensures h
