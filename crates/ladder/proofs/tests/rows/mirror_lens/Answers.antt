use Rattle.ladder.proofs.RowSamples.{mirror_well_formed}
use Rattle.ladder.proofs.tests.rows.mirror_lens.Goals as goal

pub returns : goal.returns
returns c = rw (c.sample.ensures, c.mirror.ensures, c.narrow.ensures) mirror_well_formed
