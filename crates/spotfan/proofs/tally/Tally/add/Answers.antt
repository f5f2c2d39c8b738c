use Rattle.std.proofs.Common.{sym, ap, ◌∙◌}
use Rattle.spotfan.specs.Sums.{Sums, with_row}
use Rattle.spotfan.proofs.Tallies.{passes-with_row, rows-with_row, sums_of-append}
use Rattle.spotfan.proofs.tally.Tally.add.Goals as goal

pub returns-clause-sums : goal.returns-clause-sums
returns-clause-sums c rows e = c.add_row.ensures ∙ ap (λ (s : Sums). with_row s c.args.r.now) e ∙ sym (sums_of-append rows c.args.r.now)

pub returns-clause-rows : goal.returns-clause-rows
returns-clause-rows c = ap (λ (s : Sums). s.rows) c.add_row.ensures ∙ rows-with_row c.args.self.now c.args.r.now

pub returns-clause-passes : goal.returns-clause-passes
returns-clause-passes c = ap (λ (s : Sums). s.passes) c.add_row.ensures ∙ passes-with_row c.args.self.now c.args.r.now
