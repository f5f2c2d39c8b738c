use Rattle.examples.proofs.ComputedRows.{coarse_residual, fine_residual, finest_residual}
use Rattle.examples.proofs.computed.residuals.Goals as goal

pub returns-clause-coarse : goal.returns-clause-coarse
returns-clause-coarse c = coarse_residual

pub returns-clause-fine : goal.returns-clause-fine
returns-clause-fine c = fine_residual

pub returns-clause-finest : goal.returns-clause-finest
returns-clause-finest c = finest_residual
