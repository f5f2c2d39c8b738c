use Rattle.ladder.proofs.RowSamples.{finest_well_formed}
use Rattle.ladder.proofs.tests.rows.finest_lens.Goals as goal

pub returns : goal.returns
returns c = rw (c.sample-setup.ensures, c.rimmed.ensures, c.narrow.ensures) finest_well_formed
