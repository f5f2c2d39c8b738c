use Rattle.std.proofs.Common.{sym, ap, ◌∙◌}
use Rattle.lensreport.specs.Totals.{Counts, with_word}
use Rattle.lensreport.proofs.Totals.{counts_of-append, rays-with_word}
use Rattle.lensreport.proofs.total.Totals.add.Goals as goal

pub returns-clause-counts : goal.returns-clause-counts
returns-clause-counts c rows e =
    c.add_word.ensures ∙ ap (λ (t : Counts). with_word t c.args.row.now.word) e ∙ sym (counts_of-append rows c.args.row.now)

pub returns-clause-rays : goal.returns-clause-rays
returns-clause-rays c = ap (λ (t : Counts). t.rays) c.add_word.ensures ∙ rays-with_word c.args.self.now c.args.row.now.word
