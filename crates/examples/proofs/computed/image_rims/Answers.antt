use Rattle.examples.proofs.ComputedEdges.{image_tie, image_rim}
use Rattle.examples.proofs.computed.image_rims.Goals as goal

pub returns-clause-tie : goal.returns-clause-tie
returns-clause-tie c = image_tie

pub returns-clause-rim : goal.returns-clause-rim
returns-clause-rim c = image_rim
