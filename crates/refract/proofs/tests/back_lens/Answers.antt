use Rattle.refract.proofs.Samples.{back_well_formed}
use Rattle.refract.proofs.tests.back_lens.Goals as goal

pub returns-clause-well : goal.returns-clause-well
returns-clause-well c = rw (c.single.ensures, c.back.ensures, c.heavy_glass.ensures) back_well_formed
