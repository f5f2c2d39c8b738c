use Rattle.std.proofs.Common.{◌≡◌, ◌-◌, length, drop}
use Rattle.lensmodel.specs.Files.Causes.{first_fault}
use Rattle.lensmodel.specs.Setup.WholeFaults.{faults_from}
use Rattle.zmxread.proofs.whole.inner_fault.Given as goal

-- no surface before j is at fault
abbrev pub invariant-loop-j : goal.invariant-loop-j
invariant-loop-j l =
    first_fault (faults_from (length l.surfaces - 1) 1 (drop 1 l.surfaces)) ≡ first_fault (faults_from (length l.surfaces - 1) l.j (drop l.j l.surfaces))
