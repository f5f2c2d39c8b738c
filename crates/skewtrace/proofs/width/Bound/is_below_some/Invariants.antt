use Rattle.std.proofs.Common.{◌≡◌, drop}
use Rattle.skewtrace.specs.Words.{any_wide}
use Rattle.skewtrace.proofs.width.Bound.is_below_some.Given as goal

abbrev pub invariant-loop-p : goal.invariant-loop-p
invariant-loop-p l = any_wide l.self.scale l.self.width l.places ≡ any_wide l.self.scale l.self.width (drop l.p-index l.places)
