use Rattle.std.proofs.Common.{◌-◌, ap, length, arith, length-append}
use Rattle.fixdec.specs.DecimalText.{last_digits}
use Rattle.exactdec.proofs.Texts.{length-last_digits}
use Rattle.exactdec.proofs.print.+push_last_digits.Goals as goal

pub push_digit-requires-clause-room : goal.push_digit-requires-clause-room
push_digit-requires-clause-room t c =
    let front = c.tenth.result in
    omega (arith, ap length c.push_last_digits.ensures, length-append c.args.out.now.bytes (last_digits (c.args.count - 1) front), length-last_digits (c.args.count - 1) front)
