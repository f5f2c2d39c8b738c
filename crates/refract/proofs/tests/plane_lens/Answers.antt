use Rattle.refract.proofs.Samples.{plane_well_formed}
use Rattle.refract.proofs.tests.plane_lens.Goals as goal

pub returns-clause-well : goal.returns-clause-well
returns-clause-well c = rw (c.single.ensures, c.flat.ensures) plane_well_formed
