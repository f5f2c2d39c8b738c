use Rattle.std.proofs.Common.{◌≡◌, ℕ, ◌<◌, ◌≤◌, false, get_or}
use Rattle.lensmodel.specs.Files.TextLines.{is_space}
use Rattle.lenstext.proofs.word.word_end.Given as goal

abbrev pub invariant-loop-at : goal.invariant-loop-at
invariant-loop-at l = (k : ℕ) → l.start ≤ k → k < l.at → is_space (get_or l.line k 0) ≡ false
