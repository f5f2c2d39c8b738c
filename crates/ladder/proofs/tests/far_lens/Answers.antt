use Rattle.ladder.proofs.Samples.{far_well_formed}
use Rattle.ladder.proofs.tests.far_lens.Goals as goal

pub returns : goal.returns
returns c = rw (c.sample.ensures, c.flat.ensures, c.narrow.ensures) far_well_formed
