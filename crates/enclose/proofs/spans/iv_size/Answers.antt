use Rattle.std.proofs.Common.{◌∙◌}
use Rattle.fixdec.specs.Interval.{iv_size}
use Rattle.enclose.proofs.Sizes.{small_is}
use Rattle.enclose.specs.IntervalLaws.{iv_size-encloses}
use Rattle.enclose.proofs.spans.iv_size.Goals as goal

pub returns-clause-exact : goal.returns-clause-exact
unfolding iv_size
returns-clause-exact c =
    let lo = small_is c.least_size.result c.least_size.ensures.bound ∙ c.least_size.ensures.value in
    let hi = small_is c.greatest_size.result c.greatest_size.ensures.bound ∙ c.greatest_size.ensures.value in
    (λ i. record { lo = lo i; hi = hi i })

pub returns-clause-encloses : goal.returns-clause-encloses
returns-clause-encloses c = rw (returns-clause-exact c) (λ scale. iv_size-encloses scale c.args.a)
