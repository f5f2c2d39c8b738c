use Rattle.std.proofs.Common.{◌≡◌, ◌≤◌, drop, length}
use Rattle.lensmodel.specs.Files.Causes.{each_from, first_fault}
use Rattle.lensmodel.specs.Files.Joining.{before_image}
use Rattle.lensmodel.specs.Setup.Values.{tolerances}
use Rattle.dispers.specs.Checks.{mirror_fault}
use Rattle.dispers.proofs.indices.check_mirrors.Given as goal

abbrev pub invariant-loop-j : goal.invariant-loop-j
invariant-loop-j l = (l.j ≤ length (before_image l.s.lens))
    × (first_fault (each_from (mirror_fault (tolerances l.s.toler)) 0 (before_image l.s.lens)) ≡ first_fault (each_from (mirror_fault (tolerances l.s.toler)) l.j (drop l.j (before_image l.s.lens))))
