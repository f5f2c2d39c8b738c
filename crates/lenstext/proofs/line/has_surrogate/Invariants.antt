use Rattle.std.proofs.Common.{◌≡◌, false, drop}
use Rattle.lensmodel.specs.Files.TextLines.{has_lone}
use Rattle.lenstext.proofs.line.has_surrogate.Given as goal

abbrev pub invariant-loop-unit : goal.invariant-loop-unit
invariant-loop-unit l = l.found ≡ false → has_lone false (drop l.unit-index l.line) ≡ has_lone false l.line
