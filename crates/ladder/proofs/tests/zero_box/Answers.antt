use Rattle.ladder.proofs.Samples.{zero_box_well_formed}
use Rattle.ladder.proofs.tests.zero_box.Goals as goal

pub returns : goal.returns
returns c = rw (c.sample.ensures, c.flat.ensures, c.narrow.ensures, c.boxed.ensures) zero_box_well_formed
