use Rattle.refract.proofs.Samples.{glass_well_formed}
use Rattle.refract.proofs.tests.glass_lens.Goals as goal

pub returns-clause-well : goal.returns-clause-well
returns-clause-well c = rw (c.single.ensures, c.sphere.ensures, c.flat_glass.ensures) glass_well_formed
