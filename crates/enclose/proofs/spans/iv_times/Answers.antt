use Rattle.std.proofs.Common.{◌∙◌, arith, ap}
use Rattle.fixdec.specs.Interval.{unit, iv_times}
use Rattle.fixdec.specs.Rounding.{floor, ceil}
use Rattle.enclose.proofs.EndsLaws.{ends_at}
use Rattle.enclose.proofs.Sizes.{as_is}
use Rattle.enclose.specs.IntervalLaws.{iv_times-encloses}
use Rattle.enclose.proofs.spans.iv_times.Goals as goal

pub returns-clause-exact : goal.returns-clause-exact
unfolding iv_times
returns-clause-exact c =
    let lo = as_is c.least_product.result (let h = c.least_product.ensures.bound in omega arith) ∙ c.least_product.ensures.value in
    let hi = as_is c.greatest_product.result (let h = c.greatest_product.ensures.bound in omega arith) ∙ c.greatest_product.ensures.value in
    let u = unit c.args.scale in
    ends_at _ _ c.outward.ensures (ap (λ z. floor z u) lo) (ap (λ z. ceil z u) hi)

pub returns-clause-encloses : goal.returns-clause-encloses
returns-clause-encloses c = rw (returns-clause-exact c) (iv_times-encloses c.args.scale c.args.a c.args.b)
