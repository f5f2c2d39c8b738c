use Rattle.std.proofs.Common.{◌≡◌, take}
use Rattle.lensmodel.proofs.setup.copy_media.Given as goal

abbrev pub invariant-loop-medium : goal.invariant-loop-medium
invariant-loop-medium l = l.copied.items ≡ take l.medium-index l.medium-items
