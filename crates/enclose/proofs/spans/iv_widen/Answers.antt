use Rattle.std.proofs.Common.{arith}
use Rattle.std.specs.Prelude.{◌+ℤ◌, ◌-ℤ◌}
use Rattle.std.proofs.lemmas.Int.{ints}
use Rattle.fixdec.specs.Interval.{iv_widen}
use Rattle.enclose.proofs.EndsLaws.{ends_at}
use Rattle.enclose.specs.IntervalLaws.{iv_widen-encloses}
use Rattle.enclose.proofs.spans.iv_widen.Goals as goal

pub short_ends-requires : goal.short_ends-requires
short_ends-requires c =
    let i = c.a.invariant in
    let h = c.requires.low in
    let k = c.requires.high in
    let t0 = c.short.ensures.value in
    let t1 = c.short-2.ensures.value in
    let t2 = c.short-3.ensures.value in
    let t3 = c.short-4.ensures.value in
    omega (arith, ints)

pub returns-clause-exact : goal.returns-clause-exact
unfolding iv_widen
returns-clause-exact c =
    let a = c.a.inside in
    let e = c.args.e in
    let i = c.a.invariant in
    let h = c.requires.low in
    let k = c.requires.high in
    let t0 = c.short.ensures.value in
    let t1 = c.short-2.ensures.value in
    let t2 = c.short-3.ensures.value in
    let t3 = c.short-4.ensures.value in
    rw (← c.a.view_is) (ends_at (a.lo -ℤ e) (a.hi +ℤ e) c.short_ends.ensures (omega (arith, ints)) (omega (arith, ints)))

pub returns-clause-encloses : goal.returns-clause-encloses
returns-clause-encloses c = rw (returns-clause-exact c) (λ scale. iv_widen-encloses scale c.args.a c.args.e)
