use Rattle.examples.proofs.Mirrors.{direction_stays}
use Rattle.examples.proofs.laws.equal_media_keep_direction.Goals as goal

pub returns : goal.returns
returns c = direction_stays
