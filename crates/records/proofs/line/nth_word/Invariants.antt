use Rattle.std.proofs.Common.{◌≡◌, drop}
use Rattle.lensmodel.specs.Files.TextLines.{words}
use Rattle.records.proofs.line.nth_word.Given as goal

abbrev pub invariant-loop : goal.invariant-loop
invariant-loop l = words l.rest ≡ drop l.counter (words l.units)
