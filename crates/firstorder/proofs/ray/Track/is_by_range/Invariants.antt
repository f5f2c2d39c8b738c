use Rattle.std.proofs.Common.{◌≡◌, drop}
use Rattle.lensmodel.specs.Paraxial.FirstOrderRows.{rows_of}
use Rattle.lensmodel.specs.Paraxial.Losses.{some_by_range}
use Rattle.firstorder.proofs.ray.Track.is_by_range.Given as goal

abbrev pub invariant-loop-p : goal.invariant-loop-p
invariant-loop-p g l = some_by_range (rows_of l.list) ≡ some_by_range (rows_of (drop l.p-index l.list))
