use Rattle.std.proofs.Common.{◌≡◌, ◌≤◌, drop, length}
use Rattle.lensmodel.specs.Files.Causes.{each_from, first_fault}
use Rattle.dispers.specs.Checks.{formula_fault}
use Rattle.dispers.proofs.glasses.check_formulas.Given as goal

abbrev pub invariant-loop-j : goal.invariant-loop-j
invariant-loop-j l = (l.j ≤ length l.media) × (first_fault (each_from formula_fault 0 l.media) ≡ first_fault (each_from formula_fault l.j (drop l.j l.media)))
