use Rattle.std.proofs.Common.{arith}
use Rattle.std.proofs.lemmas.Int.{ints, to_z-of_z}
use Rattle.std.specs.Int.{w128}
use Rattle.std.specs.Prelude.{FitsSigned}
use Rattle.spotfan.proofs.Means.{in_order}
use Rattle.spotfan.proofs.total.Total.mean.Goals as goal

pub ends-requires : goal.ends-requires
ends-requires c =
    let s = rw (← c.self.view_is) at c.requires.sums in
    let lo : FitsSigned w128 c.self.inside.lo = record { sfits = omega (arith, ints) } in
    let hi : FitsSigned w128 c.self.inside.hi = record { sfits = omega (arith, ints) } in
    rw (
      to_z-of_z w128 c.floor_div.result (record { sfits = c.floor_div.type_inv }),
      to_z-of_z w128 c.ceil_div.result (record { sfits = c.ceil_div.type_inv }),
      c.floor_div.ensures.value,
      c.ceil_div.ensures.value,
      to_z-of_z w128 c.self.inside.lo lo,
      to_z-of_z w128 c.self.inside.hi hi,
      to_z-of_z w128 c.from-count.result (record { sfits = c.from-count.type_inv }),
      c.from-count.ensures,
    ) (in_order c.self.inside.lo c.self.inside.hi c.args.count c.requires.some s.order)
