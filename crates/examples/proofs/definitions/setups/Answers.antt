use Rattle.examples.proofs.SetupExamples.{mirror_is_well_formed, air_indices, widths, residuals, sides, places, rims}
use Rattle.examples.proofs.definitions.setups.Goals as goal

pub returns-clause-mirror : goal.returns-clause-mirror
returns-clause-mirror c = mirror_is_well_formed

pub returns-clause-air : goal.returns-clause-air
returns-clause-air c = air_indices

pub returns-clause-widths : goal.returns-clause-widths
returns-clause-widths c = widths

pub returns-clause-residuals : goal.returns-clause-residuals
returns-clause-residuals c = residuals

pub returns-clause-sides : goal.returns-clause-sides
returns-clause-sides c = sides

pub returns-clause-places : goal.returns-clause-places
returns-clause-places c = places

pub returns-clause-rims : goal.returns-clause-rims
returns-clause-rims c = rims
