use Rattle.std.proofs.Common.{◌≡◌, drop}
use Rattle.lensmodel.specs.Setup.Media.{has_tolerance}
use Rattle.toltext.proofs.place.is_taken.Given as goal

abbrev pub invariant-loop-tol : goal.invariant-loop-tol
invariant-loop-tol l = has_tolerance (drop l.tol-index l.tolerances) l.kind l.surface ≡ has_tolerance l.tolerances l.kind l.surface
