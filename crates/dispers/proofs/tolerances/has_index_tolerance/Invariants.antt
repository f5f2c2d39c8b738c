use Rattle.std.proofs.Common.{◌≡◌, drop}
use Rattle.lensmodel.specs.Setup.Media.{has_tolerance}
use Rattle.lensmodel.specs.declared.tolerance.TolKind.TheVariants.{Indx}
use Rattle.dispers.proofs.tolerances.has_index_tolerance.Given as goal

abbrev pub invariant-loop-t : goal.invariant-loop-t
invariant-loop-t l = has_tolerance l.list Indx l.j ≡ has_tolerance (drop l.t-index l.list) Indx l.j
