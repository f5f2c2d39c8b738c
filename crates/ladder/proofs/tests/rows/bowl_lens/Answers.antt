use Rattle.ladder.proofs.RowSamples.{bowl_well_formed}
use Rattle.ladder.proofs.tests.rows.bowl_lens.Goals as goal

pub returns : goal.returns
returns c = rw (c.sample.ensures, c.bowl.ensures, c.narrow.ensures) bowl_well_formed
