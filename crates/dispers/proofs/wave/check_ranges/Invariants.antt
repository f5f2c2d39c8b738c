use Rattle.std.proofs.Common.{◌≡◌, ◌≤◌, drop, length}
use Rattle.lensmodel.specs.Files.Causes.{each_from, first_fault}
use Rattle.dispers.specs.Checks.{range_fault}
use Rattle.dispers.proofs.wave.check_ranges.Given as goal

abbrev pub invariant-loop-j : goal.invariant-loop-j
invariant-loop-j l = (l.j ≤ length l.media) × (first_fault (each_from (range_fault l.wave) 0 l.media) ≡ first_fault (each_from (range_fault l.wave) l.j (drop l.j l.media)))
