use Rattle.std.proofs.Common.{sym, subst}
use Rattle.lensmodel.specs.Setup.WellFormed.{IsWellFormed}
use Rattle.lensmodel.specs.declared.setup.Setup.{Setup}
use Rattle.sagform.proofs.Samples.{plate_well_formed}
use Rattle.sagform.proofs.tests.lenses.plate_lens.Goals as goal

pub returns-clause-well : goal.returns-clause-well
returns-clause-well c = subst (λ (s : Setup). IsWellFormed s) (sym c.plate.ensures) plate_well_formed
