use Rattle.std.proofs.Common.{◌≡◌, ◌≤◌, drop, length}
use Rattle.lensmodel.specs.Files.Causes.{each_from, first_fault}
use Rattle.lensmodel.specs.Files.Joining.{before_image}
use Rattle.dispers.specs.Checks.{index_fault}
use Rattle.dispers.proofs.indices.check_indices.Given as goal

abbrev pub invariant-loop-j : goal.invariant-loop-j
invariant-loop-j l = (l.j ≤ length (before_image l.s.lens)) × (first_fault (each_from (index_fault l.s) 0 (before_image l.s.lens)) ≡ first_fault (each_from (index_fault l.s) l.j (drop l.j (before_image l.s.lens))))
