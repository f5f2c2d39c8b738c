use Rattle.refract.proofs.Samples.{mirror_well_formed}
use Rattle.refract.proofs.tests.mirror_lens.Goals as goal

pub returns-clause-well : goal.returns-clause-well
returns-clause-well c = rw (c.folded.ensures, c.parabola.ensures, c.second.ensures) mirror_well_formed
