use Rattle.firstorder.proofs.Samples.{mirror_well_formed}
use Rattle.firstorder.proofs.tests.lenses.mirror.Goals as goal

pub returns : goal.returns
returns c = rw (c.alone.ensures, c.parabola.ensures) mirror_well_formed
