use Rattle.ladder.proofs.RowSamples.{spherical_well_formed}
use Rattle.ladder.proofs.tests.rows.spherical_lens.Goals as goal

pub returns : goal.returns
returns c = rw (c.sample.ensures, c.spherical.ensures, c.narrow.ensures) spherical_well_formed
