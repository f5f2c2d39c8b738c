use Rattle.ladder.proofs.Samples.{flat_well_formed}
use Rattle.ladder.proofs.tests.plane_lens.Goals as goal

pub returns : goal.returns
returns c = rw (c.sample.ensures, c.flat.ensures, c.narrow.ensures) flat_well_formed
