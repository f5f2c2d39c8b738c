use Rattle.std.proofs.Common.{arith, ◌≤◌, ◌^◌}
use Rattle.std.specs.Int.{w128}
use Rattle.std.proofs.Math.Nat.{one-le-pow}
use Rattle.std.proofs.lemmas.Int.{to_z-of_z}
use Rattle.enclose.proofs.Quotients.{floor_le_ceil}
use Rattle.enclose.proofs.Sizes.{as_is}
use Rattle.enclose.proofs.spans.outward.Goals as goal

pub ends-requires : goal.ends-requires
ends-requires c =
    let one : 1 ≤ 10 ^ c.args.k = one-le-pow c.args.k 10 (omega arith) in
    let order = floor_le_ceil c.args.lo c.args.hi (10 ^ c.args.k) one c.requires.order in
    let lo = rw (as_is c.args.lo (let h = c.requires.low in omega arith)) at c.floor_pow10.ensures in
    let hi = rw (as_is c.args.hi (let h = c.requires.high in omega arith)) at c.ceil_pow10.ensures in
    rw (to_z-of_z w128 c.floor_pow10.result (record { sfits = c.floor_pow10.type_inv }), to_z-of_z w128 c.ceil_pow10.result (record { sfits = c.ceil_pow10.type_inv }), lo, hi)
    order
