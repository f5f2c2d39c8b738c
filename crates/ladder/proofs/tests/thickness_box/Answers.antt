use Rattle.ladder.proofs.Samples.{thickness_box_well_formed}
use Rattle.ladder.proofs.tests.thickness_box.Goals as goal

pub returns : goal.returns
returns c = rw (c.sample.ensures, c.flat.ensures, c.boxed.ensures) thickness_box_well_formed
