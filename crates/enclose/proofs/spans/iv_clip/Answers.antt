use Rattle.std.proofs.Common.{◌≡◌, ◌∙◌, arith}
use Rattle.std.specs.Int.{w64, int_min, int_max, cast_signed, cast_unsigned}
use Rattle.std.proofs.lemmas.Int.{to_z-of_z, ints, clamps}
use Rattle.fixdec.specs.Ends.{InCap}
use Rattle.fixdec.specs.declared.step.Step.TheVariants.{Val}
use Rattle.enclose.proofs.Clips.{clip_some, clip_none}
use Rattle.enclose.proofs.Sizes.{small_is, short_at}
use Rattle.enclose.specs.IntervalLaws.{iv_clip-encloses}
use Rattle.enclose.proofs.spans.iv_clip.Goals as goal
use Rattle.enclose.proofs.spans.iv_clip.Goals.{After-min-hi}

low : (c : After-min-hi) → cast_signed w64 (cast_unsigned w64 c.max-lo.result) ≡ int_max c.a.inside.lo c.s.inside.lo
low c =
    let a = short_at c.a.inside.lo c.a.invariant.1 c.short.ensures.value in
    let s = short_at c.s.inside.lo c.s.invariant.1 c.short-2.ensures.value in
    to_z-of_z w64 c.max-lo.result (record { sfits = c.max-lo.type_inv }) ∙ c.max-lo.ensures.value ∙ (λ i. int_max (a i) (s i))

high : (c : After-min-hi) → cast_signed w64 (cast_unsigned w64 c.min-hi.result) ≡ int_min c.a.inside.hi c.s.inside.hi
high c =
    let a = short_at c.a.inside.hi c.a.invariant.2 c.short-3.ensures.value in
    let s = short_at c.s.inside.hi c.s.invariant.2 c.short-4.ensures.value in
    to_z-of_z w64 c.min-hi.result (record { sfits = c.min-hi.type_inv }) ∙ c.min-hi.ensures.value ∙ (λ i. int_min (a i) (s i))

low_small : (c : After-min-hi) → InCap (cast_signed w64 (cast_unsigned w64 c.max-lo.result))
low_small c = rw (low c) (let i = c.a.invariant in let j = c.s.invariant in omega (arith, ints, clamps))

high_small : (c : After-min-hi) → InCap (cast_signed w64 (cast_unsigned w64 c.min-hi.result))
high_small c = rw (high c) (let i = c.a.invariant in let j = c.s.invariant in omega (arith, ints, clamps))

pub invariant_of-result : goal.invariant_of-result
invariant_of-result c =
    let b = c.before in
    let order = c.if-lo-hi.true in
    rw (small_is _ (low_small b), small_is _ (high_small b)) (grind (arith, ints), low_small b, high_small b)

pub returns-then-lo-hi-clause-exact : goal.returns-then-lo-hi-clause-exact
returns-then-lo-hi-clause-exact c =
    let b = c.before in
    let lo = small_is _ (low_small b) in
    let hi = small_is _ (high_small b) in
    rw (← c.a.view_is, ← c.s.view_is)
    ((λ i. Val (record { lo = lo i; hi = hi i }))
    ∙ clip_some (record { lo = c.a.inside.lo; hi = c.a.inside.hi }) (record { lo = c.s.inside.lo; hi = c.s.inside.hi }) (low b) (high b) c.if-lo-hi.true (low_small b) (high_small b))

pub returns-else-lo-hi-clause-exact : goal.returns-else-lo-hi-clause-exact
returns-else-lo-hi-clause-exact c =
    let b = c.before in
    rw (← c.a.view_is, ← c.s.view_is)
    (clip_none (record { lo = c.a.inside.lo; hi = c.a.inside.hi }) (record { lo = c.s.inside.lo; hi = c.s.inside.hi }) (low b) (high b) c.if-lo-hi.false)

pub returns-then-lo-hi-clause-encloses : goal.returns-then-lo-hi-clause-encloses
returns-then-lo-hi-clause-encloses c = λ scale u p q. rw (← returns-then-lo-hi-clause-exact c) at (iv_clip-encloses scale c.args.a c.args.s u p q)

pub returns-else-lo-hi-clause-encloses : goal.returns-else-lo-hi-clause-encloses
returns-else-lo-hi-clause-encloses c = λ scale u p q. rw (← returns-else-lo-hi-clause-exact c) at (iv_clip-encloses scale c.args.a c.args.s u p q)
