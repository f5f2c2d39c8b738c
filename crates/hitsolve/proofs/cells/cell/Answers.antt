use Rattle.std.proofs.Common.{sym, ◌∙◌}
use Rattle.hitsolve.specs.CellValues.{cell_is}
use Rattle.hitsolve.proofs.cells.cell.Goals as goal

pub returns-clause-value : goal.returns-clause-value
returns-clause-value c = c.sags_over.ensures.value ∙ sym (cell_is c.args.k.now c.args.z)
