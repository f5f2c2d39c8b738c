use Rattle.std.proofs.Common.{◌≡◌, ◌∙◌, ◌*◌, ◌^◌, arith, ap, sym}
use Rattle.std.specs.Prelude.{pos, int_lt}
use Rattle.std.specs.Int.{w128, cast_signed}
use Rattle.std.proofs.lemmas.Int.{ints, to_z_pos}
use Rattle.fixdec.specs.Interval.{positive_part}
use Rattle.fixdec.specs.Root.{root, root_up_by}
use Rattle.enclose.proofs.EndsLaws.{ends_at}
use Rattle.enclose.proofs.RootsOfEnds.{ends_of_root, root_small, root_up_small, root_none, root_some}
use Rattle.enclose.proofs.Sizes.{small_is}
use Rattle.enclose.specs.IntervalLaws.{iv_root-encloses}
use Rattle.enclose.proofs.spans.iv_root.Goals as goal

pub returns-then-a-lt0-clause-exact : goal.returns-then-a-lt0-clause-exact
returns-then-a-lt0-clause-exact c =
    rw (← c.a.view_is)
    (root_none c.args.scale (record { lo = c.a.inside.lo; hi = c.a.inside.hi }) (ap (λ z. int_lt z (pos 0)) (sym (small_is c.a.inside.hi c.a.invariant.2)) ∙ c.if-a-lt0.true))

pub overflow_cast-hi : goal.overflow_cast-hi
overflow_cast-hi c =
    let e = c.isqrt_ceil-hi.ensures.value in
    let l = root_up_small c.radicand-2.result c.radicand-2.ensures.bound in
    omega (arith, ints)

low : (c : goal.After-isqrt_ceil-hi) → cast_signed w128 c.isqrt_floor-lo.result ≡ pos (root (positive_part c.a.inside.lo * 10 ^ c.args.scale))
low c =
    let e = c.isqrt_floor-lo.ensures.value in
    let l = root_small c.radicand.result c.radicand.ensures.bound in
    to_z_pos w128 c.isqrt_floor-lo.result (omega arith)
    ∙ ap pos (e ∙ ap root (c.radicand.ensures.value ∙ ap (λ z. positive_part z * 10 ^ c.args.scale) (small_is c.a.inside.lo c.a.invariant.1)))

high : (c : goal.After-isqrt_ceil-hi) → cast_signed w128 c.isqrt_ceil-hi.result ≡ pos (root_up_by (positive_part c.a.inside.hi * 10 ^ c.args.scale))
high c =
    let e = c.isqrt_ceil-hi.ensures.value in
    let l = root_up_small c.radicand-2.result c.radicand-2.ensures.bound in
    to_z_pos w128 c.isqrt_ceil-hi.result (omega arith)
    ∙ ap pos (e ∙ ap root_up_by (c.radicand-2.ensures.value ∙ ap (λ z. positive_part z * 10 ^ c.args.scale) (small_is c.a.inside.hi c.a.invariant.2)))

pub ends-requires : goal.ends-requires
ends-requires c =
    let l = ends_of_root c.a.inside.lo c.a.inside.hi (10 ^ c.args.scale) c.a.invariant.0 in
    rw (low c, high c) (omega (arith, ints))

pub returns-clause-exact : goal.returns-clause-exact
returns-clause-exact c =
    rw (← c.a.view_is)
    (ends_at _ _ c.ends.ensures (low c.before) (high c.before)
    ∙ sym (root_some c.args.scale (record { lo = c.a.inside.lo; hi = c.a.inside.hi }) (ap (λ z. int_lt z (pos 0)) (sym (small_is c.a.inside.hi c.a.invariant.2)) ∙ c.if-a-lt0.false)))

pub returns-then-a-lt0-clause-encloses : goal.returns-then-a-lt0-clause-encloses
returns-then-a-lt0-clause-encloses c = λ u n p. rw (← returns-then-a-lt0-clause-exact c) at (iv_root-encloses c.args.scale c.args.a u n p)

pub returns-clause-encloses : goal.returns-clause-encloses
returns-clause-encloses c = rw (returns-clause-exact c) (iv_root-encloses c.args.scale c.args.a)
