use Rattle.ladder.proofs.Samples.{rimmed_well_formed}
use Rattle.ladder.proofs.tests.rimmed_lens.Goals as goal

pub returns : goal.returns
returns c = rw (c.sample.ensures, c.rimmed.ensures, c.narrow.ensures) rimmed_well_formed
