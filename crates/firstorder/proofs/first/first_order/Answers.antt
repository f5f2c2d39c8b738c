use Rattle.std.proofs.Common.{ℕ, sym, ◌∙◌}
use Rattle.fixdec.specs.IntervalOperations.{operations}
use Rattle.lensmodel.specs.Paraxial.FirstOrderRows.{first_attempt, first_order}
use Rattle.lensmodel.specs.Paraxial.Losses.{Attempt}
use Rattle.lensmodel.specs.Rows.Constants.{residual_units}
use Rattle.lensmodel.specs.declared.paraxial.FirstOut.{FirstOut}
use Rattle.firstorder.proofs.Choices.{kept_off, kept_on, chosen-15, chosen-12, chosen-9, chosen-6}
use Rattle.lensmodel.specs.declared.setup.Setup.{Setup}
use Rattle.fixdec.specs.Decimal.{Decimal}
use Rattle.firstorder.proofs.first.first_order.Goals as goal

-- the values at a scale
abbrev attempts : Setup → Decimal → Decimal → ℕ → Attempt FirstOut
attempts s y u scale = first_attempt (operations scale) scale s (residual_units scale s.res) y u

pub returns-then-not-at_15-clause-exact : goal.returns-then-not-at_15-clause-exact
unfolding first_order
returns-then-not-at_15-clause-exact c =
    let f = attempts c.args.s.now c.args.y.now c.args.u.now in
    let at_15 = c.values_at_scale-at_15 in
    at_15.ensures.out ∙ chosen-15 f (sym at_15.ensures.by_range ∙ kept_off at_15.result.by_range c.if-not-at_15.true)

pub returns-then-not-at_12-clause-exact : goal.returns-then-not-at_12-clause-exact
unfolding first_order
returns-then-not-at_12-clause-exact c =
    let f = attempts c.args.s.now c.args.y.now c.args.u.now in
    let at_15 = c.values_at_scale-at_15 in
    let at_12 = c.values_at_scale-at_12 in
    at_12.ensures.out
    ∙ chosen-12 f (sym at_15.ensures.by_range ∙ kept_on at_15.result.by_range c.if-not-at_15.false)
    (sym at_12.ensures.by_range ∙ kept_off at_12.result.by_range c.if-not-at_12.true)

pub returns-then-not-at_9-clause-exact : goal.returns-then-not-at_9-clause-exact
unfolding first_order
returns-then-not-at_9-clause-exact c =
    let f = attempts c.args.s.now c.args.y.now c.args.u.now in
    let at_15 = c.values_at_scale-at_15 in
    let at_12 = c.values_at_scale-at_12 in
    let at_9 = c.values_at_scale-at_9 in
    at_9.ensures.out
    ∙ chosen-9 f (sym at_15.ensures.by_range ∙ kept_on at_15.result.by_range c.if-not-at_15.false)
    (sym at_12.ensures.by_range ∙ kept_on at_12.result.by_range c.if-not-at_12.false)
    (sym at_9.ensures.by_range ∙ kept_off at_9.result.by_range c.if-not-at_9.true)

pub returns-clause-exact : goal.returns-clause-exact
unfolding first_order
returns-clause-exact c =
    let f = attempts c.args.s.now c.args.y.now c.args.u.now in
    let at_15 = c.values_at_scale-at_15 in
    let at_12 = c.values_at_scale-at_12 in
    let at_9 = c.values_at_scale-at_9 in
    c.values_at_scale.ensures.out
    ∙ chosen-6 f (sym at_15.ensures.by_range ∙ kept_on at_15.result.by_range c.if-not-at_15.false)
    (sym at_12.ensures.by_range ∙ kept_on at_12.result.by_range c.if-not-at_12.false)
    (sym at_9.ensures.by_range ∙ kept_on at_9.result.by_range c.if-not-at_9.false)
