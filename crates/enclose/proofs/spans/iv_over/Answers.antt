use Rattle.std.proofs.Common.{◌∙◌, refl, sym}
use Rattle.std.specs.Int.{w128}
use Rattle.std.proofs.lemmas.Int.{to_z-of_z}
use Rattle.fixdec.specs.Interval.{iv_over}
use Rattle.enclose.proofs.EndsLaws.{ends_at}
use Rattle.enclose.proofs.Quotients.{quotients_in_order}
use Rattle.enclose.specs.IntervalLaws.{iv_over-encloses}
use Rattle.enclose.proofs.spans.iv_over.Goals as goal

pub returns-then-holds_zero-clause-exact : goal.returns-then-holds_zero-clause-exact
unfolding iv_over
returns-then-holds_zero-clause-exact c = rw (sym c.holds_zero.ensures ∙ c.if-holds_zero.true) refl

pub ends-requires : goal.ends-requires
ends-requires c =
    rw (to_z-of_z w128 c.least_quotient.result (record { sfits = c.least_quotient.type_inv }), to_z-of_z w128 c.greatest_quotient.result (record { sfits = c.greatest_quotient.type_inv }), c.least_quotient.ensures, c.greatest_quotient.ensures)
    (quotients_in_order c.args.scale c.args.a c.args.b (sym c.holds_zero.ensures ∙ c.if-holds_zero.false))

pub returns-clause-exact : goal.returns-clause-exact
unfolding iv_over
returns-clause-exact c =
    rw (sym c.holds_zero.ensures ∙ c.if-holds_zero.false)
    (ends_at _ _ c.ends.ensures
    (to_z-of_z w128 c.least_quotient.result (record { sfits = c.least_quotient.type_inv }) ∙ c.least_quotient.ensures)
    (to_z-of_z w128 c.greatest_quotient.result (record { sfits = c.greatest_quotient.type_inv }) ∙ c.greatest_quotient.ensures))

pub returns-then-holds_zero-clause-encloses : goal.returns-then-holds_zero-clause-encloses
returns-then-holds_zero-clause-encloses c = λ u v q p r e. tt

pub returns-clause-encloses : goal.returns-clause-encloses
returns-clause-encloses c = rw (returns-clause-exact c) (iv_over-encloses c.args.scale c.args.a c.args.b)
