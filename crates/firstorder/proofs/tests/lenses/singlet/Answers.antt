use Rattle.firstorder.proofs.Samples.{singlet_well_formed}
use Rattle.firstorder.proofs.tests.lenses.singlet.Goals as goal

pub returns : goal.returns
returns c = rw (c.pair.ensures, c.front.ensures, c.back.ensures, c.flat_glass.ensures) singlet_well_formed
