use Rattle.std.proofs.Common.{◌+◌, ◌-◌, ◌*◌, ◌^◌, ◌<◌, ◌≤◌, arith}
use Rattle.std.proofs.Math.Nat.{pow-le-pow_right}
use Rattle.exactdec.proofs.Mantissas.{with_digit_below}
use Rattle.exactdec.proofs.mantissa.Mantissa.value_with.Goals as goal

pub pow-requires : goal.pow-requires
pow-requires c =
    let most : 10 ^ (c.args.self.now.seen - c.args.self.now.kept + 1) ≤ 10 ^ 30 = pow-le-pow_right {n = 10} (omega arith) {i = c.args.self.now.seen - c.args.self.now.kept + 1} {j = 30} (omega arith) in
    omega arith

-- the answer has at most 30 digits
below : (c : goal.After-pow) → c.args.self.now.value * c.pow.result + (c.args.digit - 48) < 10 ^ 30
below c =
    let m = c.args.self.now in
    let fits : m.value < 10 ^ m.kept = m.bounded (omega arith) in
    let sum = with_digit_below m.value m.kept m.seen c.args.digit fits m.ordered c.requires in
    let most : 10 ^ (m.seen + 1) ≤ 10 ^ 30 = pow-le-pow_right {n = 10} (omega arith) {i = m.seen + 1} {j = 30} (omega arith) in
    rw c.pow.ensures (omega arith)

pub overflow_mul-result : goal.overflow_mul-result
overflow_mul-result c = record { fits = let b = below c in omega arith }

pub overflow_add-result : goal.overflow_add-result
overflow_add-result c = record { fits = let b = below c in omega arith }
