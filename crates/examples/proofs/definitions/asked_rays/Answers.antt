use Rattle.examples.specs.LaunchLaws.{count_is, fan_along_y, fan_along_x, grid_at}
use Rattle.examples.proofs.LaunchExamples.{fan_of_two, grid_of_one}
use Rattle.examples.proofs.definitions.asked_rays.Goals as goal

pub returns-clause-count : goal.returns-clause-count
returns-clause-count c = count_is

pub returns-clause-along_y : goal.returns-clause-along_y
returns-clause-along_y c = fan_along_y

pub returns-clause-along_x : goal.returns-clause-along_x
returns-clause-along_x c = fan_along_x

pub returns-clause-grid : goal.returns-clause-grid
returns-clause-grid c = grid_at

pub returns-clause-fan_of_two : goal.returns-clause-fan_of_two
returns-clause-fan_of_two c = fan_of_two

pub returns-clause-grid_of_one : goal.returns-clause-grid_of_one
returns-clause-grid_of_one c = grid_of_one
