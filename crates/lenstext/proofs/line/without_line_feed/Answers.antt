use Rattle.std.proofs.Common.{◌+◌, ◌-◌, drop, arith, inl, inr, ◌∙◌, length-drop, length-take}
use Rattle.std.proofs.lemmas.Bool.{cases_lt}
use Rattle.lenstext.proofs.Lines.{in_range}
use Rattle.lenstext.proofs.line.without_line_feed.Goals as goal

pub loop-at-preserved : goal.loop-at-preserved
loop-at-preserved c =
    let us = c.args.units.now in
    let at = c.loop-at.at in
    let room = c.loop-at-test.true in
    let held = c.loop-at.invariant in
    let count = length-take (at + 16 - at) (drop at us) in
    let behind = length-drop at us in (
      omega arith,
      omega arith,
      λ k low high e. elim (cases_lt k at) [
        | inl l ↦ held.2 k low l e
        | inr l ↦ c.has_line_feed.ensures c.if-not-has_line_feed.true (k - at) (omega arith)
            (in_range us at (at + 16) k l high ∙ e)
      ],
    )
