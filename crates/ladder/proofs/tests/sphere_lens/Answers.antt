use Rattle.ladder.proofs.Samples.{sphere_well_formed}
use Rattle.ladder.proofs.tests.sphere_lens.Goals as goal

pub returns : goal.returns
returns c = rw (c.sample.ensures, c.sphere.ensures, c.narrow.ensures) sphere_well_formed
