use Rattle.std.proofs.Common.{◌∙◌, ◌^◌, arith, rules}
use Rattle.std.specs.Int.{w128}
use Rattle.std.proofs.lemmas.Int.{to_z-of_z}
use Rattle.fixdec.specs.Rounding.{ceil}
use Rattle.enclose.proofs.EndsLaws.{greatest_at}
use Rattle.enclose.proofs.Shifts.{raised_le}
use Rattle.enclose.proofs.Sizes.{as_is, small_is, raised_at, raised_size}
use Rattle.enclose.specs.EndLaws.{without_zero}
use Rattle.enclose.proofs.spans.greatest_quotient.Goals as goal

pub greatest_quotient-number-requires : goal.greatest_quotient-number-requires
greatest_quotient-number-requires c =
    let lo = raised_at c.a.inside.lo c.args.scale c.a.invariant.1 c.requires.scale c.raised-lo.ensures.value in
    let hi = raised_at c.a.inside.hi c.args.scale c.a.invariant.2 c.requires.scale c.raised-hi.ensures.value in
    let bl = small_is c.b.inside.lo c.b.invariant.1 in
    let bh = small_is c.b.inside.hi c.b.invariant.2 in
    let i = c.a.invariant in
    rw (lo, hi, bl, bh)
    (record {
      first = raised_le c.a.inside.lo c.a.inside.hi (10 ^ c.args.scale) i.0;
      second = c.b.invariant.0;
      low = raised_size c.a.inside.lo c.args.scale i.1 c.requires.scale;
      high = raised_size c.a.inside.hi c.args.scale i.2 c.requires.scale;
      divisor = without_zero (record { lo = c.b.inside.lo; hi = c.b.inside.hi }) (rw (← c.b.view_is) at c.requires.divisor);
    })

pub returns : goal.returns
returns c =
    let lo = raised_at c.a.inside.lo c.args.scale c.a.invariant.1 c.requires.scale c.raised-lo.ensures.value in
    let hi = raised_at c.a.inside.hi c.args.scale c.a.invariant.2 c.requires.scale c.raised-hi.ensures.value in
    let bl = small_is c.b.inside.lo c.b.invariant.1 in
    let bh = small_is c.b.inside.hi c.b.invariant.2 in
    let pair = c.greatest_quotient-number in
    let number = as_is pair.result.0 (let h = pair.ensures.bound in omega arith) in
    let divisor = to_z-of_z w128 pair.result.1 (search rules) in
    rw (← c.a.view_is, ← c.b.view_is, to_z-of_z w128 c.ceil_div.result (record { sfits = c.ceil_div.type_inv }))
    (c.ceil_div.ensures.value ∙ (λ k. ceil (number k) (divisor k)) ∙ greatest_at _ _ _ _ pair.ensures.value (λ k. ceil (lo k) (bl k)) (λ k. ceil (lo k) (bh k)) (λ k. ceil (hi k) (bl k)) (λ k. ceil (hi k) (bh k)))
