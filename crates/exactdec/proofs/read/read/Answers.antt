use Rattle.std.proofs.Common.{◌∙◌}
use Rattle.std.proofs.lemmas.Result.{err_from_is_err_and}
use Rattle.exactdec.specs.Stages.{parts_of}
use Rattle.exactdec.proofs.Readings.{reading_fault, reading_parts, parts_digits, answer_of, value_of, decimal_from}
use Rattle.exactdec.proofs.read.read.Goals as goal

pub returns-in_err-parts-clause-exact : goal.returns-in_err-parts-clause-exact
returns-in_err-parts-clause-exact c =
    let p = err_from_is_err_and c.from_residual.result c.from_residual.ensures.1 in
    rw (p.1, p.2) (reading_fault c.args.word.now c.in_err-parts.field-0.0 c.in_err-parts.ensures.fault)

pub returns-in_err-parts-clause-answer : goal.returns-in_err-parts-clause-answer
returns-in_err-parts-clause-answer c = answer_of c.args.word.now c.from_residual.result (returns-in_err-parts-clause-exact c)

pub judge-requires : goal.judge-requires
judge-requires c = parts_digits c.args.word.now (parts_of c.in_ok-parts.parts) c.in_ok-parts.ensures.found

pub returns-clause-exact : goal.returns-clause-exact
returns-clause-exact c = c.judge.ensures ∙ reading_parts c.args.word.now (parts_of c.in_ok-parts.parts) c.in_ok-parts.ensures.found

pub returns-clause-answer : goal.returns-clause-answer
returns-clause-answer c = answer_of c.args.word.now c.judge.result (returns-clause-exact c)

pub returns-clause-value : goal.returns-clause-value
returns-clause-value c = value_of c.args.word.now c.judge.result (returns-clause-exact c)

pub returns-in_err-parts-clause-decimal : goal.returns-in_err-parts-clause-decimal
returns-in_err-parts-clause-decimal c = decimal_from c.args.word.now c.from_residual.result (returns-in_err-parts-clause-exact c)

pub returns-clause-decimal : goal.returns-clause-decimal
returns-clause-decimal c = decimal_from c.args.word.now c.judge.result (returns-clause-exact c)
