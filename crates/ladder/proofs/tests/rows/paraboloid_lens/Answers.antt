use Rattle.ladder.proofs.RowSamples.{paraboloid_well_formed}
use Rattle.ladder.proofs.tests.rows.paraboloid_lens.Goals as goal

pub returns : goal.returns
returns c = rw (c.sample.ensures, c.paraboloid.ensures, c.narrow.ensures) paraboloid_well_formed
