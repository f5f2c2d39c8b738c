use Rattle.std.proofs.Common.{◌≡◌, take}
use Rattle.lensmodel.proofs.prescription.copy_surfaces.Given as goal

abbrev pub invariant-loop-surface : goal.invariant-loop-surface
invariant-loop-surface l = l.copied.items ≡ take l.surface-index l.surface-items
