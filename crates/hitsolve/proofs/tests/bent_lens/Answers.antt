use Rattle.std.proofs.Common.{sym, subst, ap, ◌∙◌}
use Rattle.lensmodel.specs.Setup.WellFormed.{IsWellFormed}
use Rattle.lensmodel.specs.declared.setup.Setup.{Setup}
use Rattle.lensmodel.specs.declared.surface.Surface.{Surface}
use Rattle.hitsolve.specs.Samples.{sample}
use Rattle.hitsolve.proofs.Samples.{bent_well_formed}
use Rattle.hitsolve.proofs.tests.bent_lens.Goals as goal

pub returns-clause-well : goal.returns-clause-well
returns-clause-well c = subst (λ (s : Setup). IsWellFormed s) (sym (c.sample.ensures ∙ ap (λ (f : Surface). sample f) c.bent.ensures)) bent_well_formed
