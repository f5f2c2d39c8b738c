use Rattle.ladder.proofs.RowSamples.{box_well_formed}
use Rattle.ladder.proofs.tests.rows.triplet_box.Goals as goal

pub returns : goal.returns
returns c = rw (c.triplet.ensures, c.tolerances.ensures) box_well_formed
