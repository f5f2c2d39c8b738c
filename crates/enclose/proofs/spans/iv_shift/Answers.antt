use Rattle.std.proofs.Common.{◌≡◌, ◌∙◌, ◌≤◌, ◌^◌, arith, ap}
use Rattle.std.specs.Prelude.{pos, ◌*ℤ◌, ◌<ℤ◌, ◌≤ℤ◌, unsigned_abs}
use Rattle.std.specs.Int.{w32, w128, cast_signed, cast_unsigned}
use Rattle.std.proofs.lemmas.Int.{ints, to_z-of_z}
use Rattle.fixdec.specs.Rounding.{floor, ceil}
use Rattle.enclose.proofs.EndsLaws.{ends_at}
use Rattle.enclose.proofs.Shifts.{raised_le, shift_up, shift_down}
use Rattle.enclose.proofs.Sizes.{small_is, raised_at}
use Rattle.enclose.specs.IntervalLaws.{iv_shift-encloses}
use Rattle.enclose.proofs.spans.iv_shift.Goals as goal

power : (c : goal.After-raised-then-k-lt0) → c.unsigned_abs-power.result ≡ unsigned_abs c.args.k
power c = c.unsigned_abs-power.ensures.value ∙ ap unsigned_abs (to_z-of_z w32 c.args.k c.ranges.k)

power_le : (c : goal.After-raised-then-k-lt0) → c.unsigned_abs-power.result ≤ 15
power_le c = let e = power c in omega (arith, ints)

low : (c : goal.After-raised-then-k-lt0) → cast_signed w128 (cast_unsigned w128 c.raised.result) ≡ c.a.inside.lo *ℤ pos (10 ^ c.unsigned_abs-power.result)
low c = raised_at c.a.inside.lo _ c.a.invariant.1 (power_le c) c.raised.ensures.value

high : (c : goal.After-raised-then-k-lt0) → cast_signed w128 (cast_unsigned w128 c.raised-then-k-lt0.result) ≡ c.a.inside.hi *ℤ pos (10 ^ c.unsigned_abs-power.result)
high c = raised_at c.a.inside.hi _ c.a.invariant.2 (power_le c) c.raised-then-k-lt0.ensures.value

pub ends-requires : goal.ends-requires
ends-requires c = rw (low c, high c) (raised_le c.a.inside.lo c.a.inside.hi (10 ^ c.unsigned_abs-power.result) c.a.invariant.0)

pub returns-then-k-lt0-clause-exact : goal.returns-then-k-lt0-clause-exact
returns-then-k-lt0-clause-exact c =
    let negative : c.args.k <ℤ pos 0 = (let h = c.if-k-lt0.true in grind (arith, ints)) in
    rw (shift_up c.args.a c.args.k _ negative (power c.before), ← c.a.view_is)
    (ends_at _ _ c.ends.ensures (low c.before) (high c.before))

pub returns-clause-exact : goal.returns-clause-exact
returns-clause-exact c =
    let k = to_z-of_z w32 c.args.k c.ranges.k in
    let positive : pos 0 ≤ℤ c.args.k = (let h = c.if-k-lt0.false in grind (arith, ints)) in
    let lo = small_is c.a.inside.lo c.a.invariant.1 in
    let hi = small_is c.a.inside.hi c.a.invariant.2 in
    rw (shift_down c.args.a c.args.k positive, ← c.a.view_is)
    (ends_at _ _ c.outward.ensures (λ i. floor (lo i) (pos (10 ^ unsigned_abs (k i)))) (λ i. ceil (hi i) (pos (10 ^ unsigned_abs (k i)))))

pub returns-then-k-lt0-clause-encloses : goal.returns-then-k-lt0-clause-encloses
returns-then-k-lt0-clause-encloses c = rw (returns-then-k-lt0-clause-exact c) (λ scale. iv_shift-encloses scale c.args.a c.args.k)

pub returns-clause-encloses : goal.returns-clause-encloses
returns-clause-encloses c = rw (returns-clause-exact c) (λ scale. iv_shift-encloses scale c.args.a c.args.k)
