use Rattle.std.proofs.Common.{◌≡◌, ◌∙◌, ◌*◌, ap, arith}
use Rattle.std.specs.Prelude.{pos, ◌*ℤ◌}
use Rattle.std.specs.Int.{w128, cast_signed, cast_unsigned}
use Rattle.std.proofs.lemmas.Int.{ints}
use Rattle.fixdec.specs.Interval.{unit, least_size, greatest_size, iv_square}
use Rattle.fixdec.specs.Rounding.{floor, ceil}
use Rattle.enclose.specs.EndLaws.{least_square-le}
use Rattle.enclose.proofs.EndsLaws.{ends_at}
use Rattle.enclose.proofs.Sizes.{small_is, word_product_at}
use Rattle.enclose.specs.IntervalLaws.{iv_square-encloses}
use Rattle.enclose.proofs.spans.iv_square.Goals as goal

low : (c : goal.After-product-2) → cast_signed w128 (cast_unsigned w128 c.product.result) ≡ pos (least_size c.args.a * least_size c.args.a)
low c =
    let size = c.least_size.ensures in
    let is = c.short-smallest.ensures in
    let value = is.value ∙ small_is c.least_size.result size.bound ∙ size.value in
    word_product_at c.short-smallest.result c.short-smallest.result is.bound is.bound c.product.ensures.value ∙ (λ i. value i *ℤ value i)

high : (c : goal.After-product-2) → cast_signed w128 (cast_unsigned w128 c.product-2.result) ≡ pos (greatest_size c.args.a * greatest_size c.args.a)
high c =
    let size = c.greatest_size.ensures in
    let is = c.short-largest.ensures in
    let value = is.value ∙ small_is c.greatest_size.result size.bound ∙ size.value in
    word_product_at c.short-largest.result c.short-largest.result is.bound is.bound c.product-2.ensures.value ∙ (λ i. value i *ℤ value i)

pub outward-requires-clause-order : goal.outward-requires-clause-order
outward-requires-clause-order c = let l = least_square-le c.args.a in rw (low c, high c) (omega (arith, ints))

pub returns-clause-exact : goal.returns-clause-exact
unfolding iv_square
returns-clause-exact c =
    let u = unit c.args.scale in
    ends_at _ _ c.outward.ensures (ap (λ z. floor z u) (low c.before)) (ap (λ z. ceil z u) (high c.before))

pub returns-clause-encloses : goal.returns-clause-encloses
returns-clause-encloses c = rw (returns-clause-exact c) (iv_square-encloses c.args.scale c.args.a)
