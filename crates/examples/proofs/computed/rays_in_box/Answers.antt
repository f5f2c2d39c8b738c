use Rattle.examples.proofs.ComputedBoxes.{thickness_box, plate_box}
use Rattle.examples.proofs.computed.rays_in_box.Goals as goal

pub returns-clause-thickness : goal.returns-clause-thickness
returns-clause-thickness c = thickness_box

pub returns-clause-index : goal.returns-clause-index
returns-clause-index c = plate_box
