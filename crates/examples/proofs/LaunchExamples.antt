-- The rays of small fans and grids, worked out.
use Rattle.std.proofs.Common.{refl}
use Rattle.examples.specs.LaunchExamples.{FanOfTwo, GridOfOne}
use Rattle.lensmodel.specs.Setup.Launches.{launches}

pub fan_of_two : FanOfTwo
unfolding launches
fan_of_two = refl

pub grid_of_one : GridOfOne
unfolding launches
grid_of_one = refl
