use Rattle.ladder.proofs.RowSamples.{triplet_well_formed}
use Rattle.ladder.proofs.tests.rows.triplet_lens.Goals as goal

pub returns : goal.returns
returns c = rw (c.triplet.ensures) triplet_well_formed
