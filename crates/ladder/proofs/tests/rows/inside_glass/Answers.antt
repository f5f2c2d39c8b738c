use Rattle.ladder.proofs.RowSamples.{inside_well_formed}
use Rattle.ladder.proofs.tests.rows.inside_glass.Goals as goal

pub returns : goal.returns
returns c = rw (c.between.ensures, c.flat.ensures, c.flat_glass.ensures) inside_well_formed
