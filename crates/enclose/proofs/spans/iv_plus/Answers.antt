use Rattle.std.proofs.Common.{arith}
use Rattle.std.specs.Prelude.{◌+ℤ◌}
use Rattle.std.proofs.lemmas.Int.{ints}
use Rattle.fixdec.specs.Interval.{iv_plus}
use Rattle.enclose.proofs.EndsLaws.{ends_at}
use Rattle.enclose.specs.IntervalLaws.{iv_plus-encloses}
use Rattle.enclose.proofs.spans.iv_plus.Goals as goal

pub short_ends-requires : goal.short_ends-requires
short_ends-requires c =
    let i = c.a.invariant in
    let j = c.b.invariant in
    let t0 = c.short.ensures.value in
    let t1 = c.short-2.ensures.value in
    let t2 = c.short-3.ensures.value in
    let t3 = c.short-4.ensures.value in
    omega (arith, ints)

pub returns-clause-exact : goal.returns-clause-exact
unfolding iv_plus
returns-clause-exact c =
    let a = c.a.inside in
    let b = c.b.inside in
    let i = c.a.invariant in
    let j = c.b.invariant in
    let t0 = c.short.ensures.value in
    let t1 = c.short-2.ensures.value in
    let t2 = c.short-3.ensures.value in
    let t3 = c.short-4.ensures.value in
    rw (← c.a.view_is, ← c.b.view_is) (ends_at (a.lo +ℤ b.lo) (a.hi +ℤ b.hi) c.short_ends.ensures (omega (arith, ints)) (omega (arith, ints)))

pub returns-clause-encloses : goal.returns-clause-encloses
returns-clause-encloses c = rw (returns-clause-exact c) (iv_plus-encloses c.args._scale c.args.a c.args.b)
