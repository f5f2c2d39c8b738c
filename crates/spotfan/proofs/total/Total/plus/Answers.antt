use Rattle.std.proofs.Common.{◌≡◌, ◌+ℤ◌, to_z, of_z, arith}
use Rattle.std.proofs.lemmas.Int.{ints}
use Rattle.std.specs.Int.{w128}
use Rattle.spotfan.proofs.total.Total.plus.Goals as goal

pub returns-clause-value : goal.returns-clause-value
returns-clause-value c =
    let s = rw (← c.self.view_is) at c.requires.sums in
    let a = c.a.invariant in
    let lo : to_z w128 (of_z w128 (to_z w128 (of_z w128 c.self.inside.lo) +ℤ to_z w128 (of_z w128 c.a.inside.lo))) ≡ c.self.inside.lo +ℤ c.a.inside.lo = omega (arith, ints) in
    let hi : to_z w128 (of_z w128 (to_z w128 (of_z w128 c.self.inside.hi) +ℤ to_z w128 (of_z w128 c.a.inside.hi))) ≡ c.self.inside.hi +ℤ c.a.inside.hi = omega (arith, ints) in
    rw (← c.self.view_is, ← c.a.view_is) λ i. record { lo = lo i; hi = hi i }

pub returns-clause-sums : goal.returns-clause-sums
returns-clause-sums c =
    let s = rw (← c.self.view_is) at c.requires.sums in
    let a = c.a.invariant in
    record { order = omega (arith, ints); low = omega (arith, ints); high = omega (arith, ints) }
