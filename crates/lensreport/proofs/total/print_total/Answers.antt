use Rattle.std.proofs.Common.{ap, ◌∙◌}
use Rattle.lensreport.specs.Totals.{Counts, counts_line}
use Rattle.lensreport.proofs.total.print_total.Goals as goal

pub returns : goal.returns
returns c rows e = c.print_counts.ensures ∙ ap (λ (t : Counts). counts_line t) e
