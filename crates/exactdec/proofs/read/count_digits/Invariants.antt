use Rattle.std.proofs.Common.{◌≡◌, ◌++◌, take, drop}
use Rattle.fixdec.specs.Reading.{digits_front, digits_after}
use Rattle.exactdec.proofs.read.count_digits.Given as goal

-- the units so far are digits
abbrev pub invariant-loop-i : goal.invariant-loop-i
invariant-loop-i l = record {
  front : take l.i l.word ++ digits_front (drop l.i l.word) ≡ digits_front l.word;
  after : digits_after (drop l.i l.word) ≡ digits_after l.word;
}
