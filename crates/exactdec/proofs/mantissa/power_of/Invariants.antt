use Rattle.std.proofs.Common.{◌≡◌, min, take}
use Rattle.fixdec.specs.Word.{number}
use Rattle.exactdec.proofs.mantissa.power_of.Given as goal

-- the number of the digits so far, up to the limit
abbrev pub invariant-loop-c : goal.invariant-loop-c
invariant-loop-c l = l.power ≡ min (number (take l.c-index l.digits)) 1_000_000_000_000_000_000_000_000_000_000
