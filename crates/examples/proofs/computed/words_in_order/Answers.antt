use Rattle.examples.proofs.ComputedRows.{vignetted_before_wide, wide_before_undecided, finer_passes}
use Rattle.examples.proofs.computed.words_in_order.Goals as goal

pub returns-clause-vignetted : goal.returns-clause-vignetted
returns-clause-vignetted c = vignetted_before_wide

pub returns-clause-wide : goal.returns-clause-wide
returns-clause-wide c = wide_before_undecided

pub returns-clause-finer : goal.returns-clause-finer
returns-clause-finer c = finer_passes
