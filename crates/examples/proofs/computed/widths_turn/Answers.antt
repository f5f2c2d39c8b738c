use Rattle.examples.proofs.ComputedWidths.{wide_path, wide_x, wide_y, wide_z, wide_l, wide_m, wide_n}
use Rattle.examples.proofs.computed.widths_turn.Goals as goal

pub returns-clause-path : goal.returns-clause-path
returns-clause-path c = wide_path

pub returns-clause-x : goal.returns-clause-x
returns-clause-x c = wide_x

pub returns-clause-y : goal.returns-clause-y
returns-clause-y c = wide_y

pub returns-clause-z : goal.returns-clause-z
returns-clause-z c = wide_z

pub returns-clause-l : goal.returns-clause-l
returns-clause-l c = wide_l

pub returns-clause-m : goal.returns-clause-m
returns-clause-m c = wide_m

pub returns-clause-n : goal.returns-clause-n
returns-clause-n c = wide_n
