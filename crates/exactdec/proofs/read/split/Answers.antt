use Rattle.std.proofs.Common.{sym, subst}
use Rattle.fixdec.specs.Word.{Parts}
use Rattle.exactdec.specs.Stages.{IsSplit}
use Rattle.exactdec.proofs.Splits.{none_fault, plain_fault, plain_found, power_fault, power_found, no_power, more_behind, all_read}
use Rattle.exactdec.proofs.read.split.Goals as goal

pub returns-then-not-has_digits-clause-fault : goal.returns-then-not-has_digits-clause-fault
returns-then-not-has_digits-clause-fault c =
    let f = c.split_mantissa-front.ensures in
    none_fault c.args.word.now _ _ _ _ _ (record { sign_is = f.sign; whole_is = f.whole; part_is = f.part; rest_is = f.rest }) c.if-not-has_digits.ensures c.not_number.ensures

pub returns-then-not-is_empty-clause-fault : goal.returns-then-not-is_empty-clause-fault
returns-then-not-is_empty-clause-fault c =
    let f = c.split_mantissa-front.ensures in
    plain_fault c.args.word.now _ _ _ _ _ _ (record { sign_is = f.sign; whole_is = f.whole; part_is = f.part; rest_is = f.rest }) c.if-not-has_digits.ensures c.split_mark.ensures.front c.if-is_empty.ensures c.if-not-is_empty.ensures c.not_number-then-not-is_empty.ensures

pub returns-then-is_empty-clause-found : goal.returns-then-is_empty-clause-found
returns-then-is_empty-clause-found c =
    let f = c.split_mantissa-front.ensures in
    subst (λ (p : Parts). IsSplit c.args.word.now p) (sym c.with_power.ensures)
    (plain_found c.args.word.now _ _ _ _ _ (record { sign_is = f.sign; whole_is = f.whole; part_is = f.part; rest_is = f.rest }) c.if-not-has_digits.ensures c.split_mark.ensures.front c.if-is_empty.ensures c.if-not-is_empty.ensures)

pub returns-then-is_empty-2-clause-fault : goal.returns-then-is_empty-2-clause-fault
returns-then-is_empty-2-clause-fault c =
    let f = c.split_mantissa-front.ensures in
    let m = c.split_mark.ensures in
    let s = c.split_sign.ensures in
    let d = c.split_digits.ensures in
    power_fault c.args.word.now _ _ _ _ _ _ _ _ _ _ _ (record { sign_is = f.sign; whole_is = f.whole; part_is = f.part; rest_is = f.rest })
    (record { mark_is = m.front; after_is = m.after; sign_is = s.front; behind_is = s.after; power_is = d.front; end_is = d.after })
    c.if-not-has_digits.ensures c.if-is_empty.ensures (no_power _ _ c.if-is_empty-2.ensures) c.not_number-then-is_empty-2.ensures

pub returns-then-not-is_empty-2-clause-fault : goal.returns-then-not-is_empty-2-clause-fault
returns-then-not-is_empty-2-clause-fault c =
    let f = c.split_mantissa-front.ensures in
    let m = c.split_mark.ensures in
    let s = c.split_sign.ensures in
    let d = c.split_digits.ensures in
    power_fault c.args.word.now _ _ _ _ _ _ _ _ _ _ _ (record { sign_is = f.sign; whole_is = f.whole; part_is = f.part; rest_is = f.rest })
    (record { mark_is = m.front; after_is = m.after; sign_is = s.front; behind_is = s.after; power_is = d.front; end_is = d.after })
    c.if-not-has_digits.ensures c.if-is_empty.ensures (more_behind _ _ c.if-is_empty-2.ensures c.if-not-is_empty-2.ensures) c.not_number-then-not-is_empty-2.ensures

pub returns-clause-found : goal.returns-clause-found
returns-clause-found c =
    let f = c.split_mantissa-front.ensures in
    let m = c.split_mark.ensures in
    let s = c.split_sign.ensures in
    let d = c.split_digits.ensures in
    subst (λ (p : Parts). IsSplit c.args.word.now p) (sym c.with_power-2.ensures)
    (power_found c.args.word.now _ _ _ _ _ _ _ _ _ _ (record { sign_is = f.sign; whole_is = f.whole; part_is = f.part; rest_is = f.rest })
    (record { mark_is = m.front; after_is = m.after; sign_is = s.front; behind_is = s.after; power_is = d.front; end_is = d.after })
    c.if-not-has_digits.ensures c.if-is_empty.ensures (all_read _ _ c.if-is_empty-2.ensures c.if-not-is_empty-2.ensures))
