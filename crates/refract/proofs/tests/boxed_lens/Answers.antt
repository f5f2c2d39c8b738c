use Rattle.refract.proofs.Samples.{boxed_well_formed}
use Rattle.refract.proofs.tests.boxed_lens.Goals as goal

pub returns-clause-well : goal.returns-clause-well
returns-clause-well c = rw (c.single.ensures, c.sphere.ensures, c.flat_glass.ensures, c.curvature_and_index.ensures) boxed_well_formed
