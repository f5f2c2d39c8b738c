use Rattle.examples.proofs.ComputedBoxes.{flat_index, heavy_index, crown_index}
use Rattle.examples.proofs.computed.indices.Goals as goal

pub returns-clause-flat : goal.returns-clause-flat
returns-clause-flat c = flat_index

pub returns-clause-schott : goal.returns-clause-schott
returns-clause-schott c = heavy_index

pub returns-clause-sellmeier : goal.returns-clause-sellmeier
returns-clause-sellmeier c = crown_index
