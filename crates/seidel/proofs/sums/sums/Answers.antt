use Rattle.std.proofs.Common.{ℕ, sym, ◌∙◌}
use Rattle.fixdec.specs.Decimal.{Decimal}
use Rattle.fixdec.specs.IntervalOperations.{operations}
use Rattle.lensmodel.specs.Paraxial.Losses.{Attempt}
use Rattle.lensmodel.specs.Paraxial.SeidelRows.{sums_attempt, seidel_sums}
use Rattle.lensmodel.specs.Rows.Constants.{residual_units}
use Rattle.lensmodel.specs.declared.paraxial.SeidelOut.{SeidelOut}
use Rattle.lensmodel.specs.declared.setup.Setup.{Setup}
use Rattle.seidel.proofs.Choices.{kept_off, kept_on, chosen_15, chosen_12, chosen_9, chosen_6}
use Rattle.seidel.proofs.sums.sums.Goals as goal

-- the sums at a scale
abbrev attempts : Setup → Decimal → Decimal → Decimal → Decimal → ℕ → Attempt SeidelOut
attempts s y u yb ub scale = sums_attempt (operations scale) scale s (residual_units scale s.res) y u yb ub

pub returns-then-not-at_15-clause-exact : goal.returns-then-not-at_15-clause-exact
unfolding seidel_sums
returns-then-not-at_15-clause-exact c =
    let f = attempts c.args.s.now c.args.y.now c.args.u.now c.args.yb.now c.args.ub.now in
    let at_15 = c.attempt-at_15 in
    at_15.ensures.out ∙ chosen_15 f (sym at_15.ensures.by_range ∙ kept_off at_15.result.by_range c.if-not-at_15.true)

pub returns-then-not-at_12-clause-exact : goal.returns-then-not-at_12-clause-exact
unfolding seidel_sums
returns-then-not-at_12-clause-exact c =
    let f = attempts c.args.s.now c.args.y.now c.args.u.now c.args.yb.now c.args.ub.now in
    let at_15 = c.attempt-at_15 in
    let at_12 = c.attempt-at_12 in
    at_12.ensures.out
    ∙ chosen_12 f (sym at_15.ensures.by_range ∙ kept_on at_15.result.by_range c.if-not-at_15.false)
    (sym at_12.ensures.by_range ∙ kept_off at_12.result.by_range c.if-not-at_12.true)

pub returns-then-not-at_9-clause-exact : goal.returns-then-not-at_9-clause-exact
unfolding seidel_sums
returns-then-not-at_9-clause-exact c =
    let f = attempts c.args.s.now c.args.y.now c.args.u.now c.args.yb.now c.args.ub.now in
    let at_15 = c.attempt-at_15 in
    let at_12 = c.attempt-at_12 in
    let at_9 = c.attempt-at_9 in
    at_9.ensures.out
    ∙ chosen_9 f (sym at_15.ensures.by_range ∙ kept_on at_15.result.by_range c.if-not-at_15.false)
    (sym at_12.ensures.by_range ∙ kept_on at_12.result.by_range c.if-not-at_12.false)
    (sym at_9.ensures.by_range ∙ kept_off at_9.result.by_range c.if-not-at_9.true)

pub returns-clause-exact : goal.returns-clause-exact
unfolding seidel_sums
returns-clause-exact c =
    let f = attempts c.args.s.now c.args.y.now c.args.u.now c.args.yb.now c.args.ub.now in
    let at_15 = c.attempt-at_15 in
    let at_12 = c.attempt-at_12 in
    let at_9 = c.attempt-at_9 in
    c.attempt.ensures.out
    ∙ chosen_6 f (sym at_15.ensures.by_range ∙ kept_on at_15.result.by_range c.if-not-at_15.false)
    (sym at_12.ensures.by_range ∙ kept_on at_12.result.by_range c.if-not-at_12.false)
    (sym at_9.ensures.by_range ∙ kept_on at_9.result.by_range c.if-not-at_9.false)
