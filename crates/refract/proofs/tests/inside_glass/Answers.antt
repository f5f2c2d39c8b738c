use Rattle.refract.proofs.Samples.{inside_well_formed}
use Rattle.refract.proofs.tests.inside_glass.Goals as goal

pub returns-clause-well : goal.returns-clause-well
returns-clause-well c = rw (c.single.ensures, c.flat.ensures, c.flat_glass.ensures) inside_well_formed
