use Rattle.std.proofs.Common.{sym, subst, ap, ◌∙◌}
use Rattle.lensmodel.specs.Setup.WellFormed.{IsWellFormed}
use Rattle.lensmodel.specs.declared.setup.Setup.{Setup}
use Rattle.lensmodel.specs.declared.surface.Surface.{Surface}
use Rattle.sagform.specs.Samples.{alone}
use Rattle.sagform.proofs.Samples.{asphere_well_formed}
use Rattle.sagform.proofs.tests.lenses.asphere_lens.Goals as goal

pub returns-clause-well : goal.returns-clause-well
returns-clause-well c = subst (λ (s : Setup). IsWellFormed s) (sym (c.alone.ensures ∙ ap (λ (f : Surface). alone f) c.asphere.ensures)) asphere_well_formed
