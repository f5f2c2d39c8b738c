use Rattle.std.proofs.Common.{◌<◌, ◌≤◌, ◌^◌, sym, arith}
use Rattle.std.proofs.Math.Nat.{pow-le-pow_right}
use Rattle.std.proofs.lemmas.Int.{to_z-of_z}
use Rattle.std.specs.Int.{w128}
use Rattle.std.specs.Prelude.{FitsSigned}
use Rattle.exactdec.specs.Stages.{parts_of}
use Rattle.exactdec.proofs.Digits.{digits_both}
use Rattle.exactdec.proofs.Judged.{judged_long, judged_zero, past_steps, kept_steps, kept_type, fits_exponent}
use Rattle.exactdec.proofs.read.judge.Goals as goal

pub returns-then-mantissa-gt30 : goal.returns-then-mantissa-gt30
returns-then-mantissa-gt30 c = sym (judged_long (parts_of c.args.parts.now) (let k = c.of-mantissa.ensures.kept_is in let t = c.if-mantissa-gt30.true in omega arith))

pub returns-then-mantissa-eq0 : goal.returns-then-mantissa-eq0
returns-then-mantissa-eq0 c = sym (judged_zero (parts_of c.args.parts.now) (let k = c.of-mantissa.ensures.kept_is in let t = c.if-mantissa-eq0.true in omega arith))

pub returns-in_default : goal.returns-in_default
returns-in_default c = past_steps (parts_of c.args.parts.now) _ _ _ c.if-mantissa-gt30.false c.if-mantissa-eq0.false c.of-mantissa.ensures c.in_default.ensures

pub signed-requires : goal.signed-requires
signed-requires c =
    let m = c.of-mantissa.result in
    let fits : m.value < 10 ^ m.kept = m.bounded c.if-mantissa-gt30.false in
    let most : 10 ^ m.kept ≤ 10 ^ 30 = pow-le-pow_right {n = 10} (omega arith) {i = m.kept} {j = 30} c.if-mantissa-gt30.false in
    omega arith

pub invariant_of-result-2 : goal.invariant_of-result-2
invariant_of-result-2 c =
    let p = parts_of c.args.parts.now in
    let m = c.of-mantissa.result in
    let mant_fits : FitsSigned w128 c.signed.result = record { sfits = c.signed.type_inv } in
    let exp_fits = fits_exponent c.in-Some.exp _ c.in-Some.ensures in
    simp to_z-of_z
    (kept_type p m.value m.kept m.seen c.signed.result c.in-Some.exp (digits_both p.whole p.part c.requires.whole c.requires.part)
    c.if-mantissa-gt30.false c.if-mantissa-eq0.false (m.bounded c.if-mantissa-gt30.false) c.of-mantissa.ensures c.signed.ensures c.in-Some.ensures.0 c.in-Some.ensures.1)

pub returns : goal.returns
returns c =
    let p = parts_of c.args.parts.now in
    let m = c.of-mantissa.result in
    let mant_fits : FitsSigned w128 c.signed.result = record { sfits = c.signed.type_inv } in
    let exp_fits = fits_exponent c.in-Some.exp _ c.in-Some.ensures in
    simp to_z-of_z
    (kept_steps p m.value m.kept m.seen c.signed.result c.in-Some.exp
    c.if-mantissa-gt30.false c.if-mantissa-eq0.false c.of-mantissa.ensures c.signed.ensures c.in-Some.ensures.0 c.in-Some.ensures.1)
