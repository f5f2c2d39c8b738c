use Rattle.std.proofs.Common.{◌≤◌, ◌^◌, ◌-◌, arith}
use Rattle.std.proofs.Math.Nat.{pow-le-pow_right}
use Rattle.std.specs.Int.{w128}
use Rattle.std.proofs.lemmas.Int.{to_z-of_z}
use Rattle.sagform.proofs.constant.residual_units.Goals as goal

pub returns-then-r-scale-clause-high : goal.returns-then-r-scale-clause-high
returns-then-r-scale-clause-high c =
    let most : 10 ^ (c.args.scale - c.args.r) ≤ 10 ^ 18 = pow-le-pow_right {n = 10} (omega arith) {i = c.args.scale - c.args.r} {j = 18} (omega arith) in
    rw (to_z-of_z w128 c.pow10.result (record { sfits = c.pow10.type_inv }), c.pow10.ensures.value) most
