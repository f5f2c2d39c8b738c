use Rattle.std.proofs.Common.{◌≡◌, ◌-◌}
use Rattle.lensmodel.specs.Files.Causes.{first_fault}
use Rattle.prescript.specs.Coefficients.{faults_from}
use Rattle.prescript.proofs.asphere.coefficient_fault.Given as goal

-- no coefficient before b_i is at fault
abbrev pub invariant-loop-i : goal.invariant-loop-i
invariant-loop-i l = first_fault (faults_from l.j l.s 8 1) ≡ first_fault (faults_from l.j l.s (9 - l.i) l.i)
