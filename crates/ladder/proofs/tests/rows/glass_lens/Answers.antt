use Rattle.ladder.proofs.RowSamples.{glass_well_formed}
use Rattle.ladder.proofs.tests.rows.glass_lens.Goals as goal

pub returns : goal.returns
returns c = rw (c.between.ensures, c.sphere.ensures, c.flat_glass.ensures) glass_well_formed
