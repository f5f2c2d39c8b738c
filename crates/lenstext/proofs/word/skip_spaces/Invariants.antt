use Rattle.std.proofs.Common.{◌≡◌}
use Rattle.lenstext.specs.Ranges.{ranges_from}
use Rattle.lenstext.proofs.word.skip_spaces.Given as goal

abbrev pub invariant-loop-at : goal.invariant-loop-at
invariant-loop-at l = ranges_from l.at l.line ≡ ranges_from l.from l.line
