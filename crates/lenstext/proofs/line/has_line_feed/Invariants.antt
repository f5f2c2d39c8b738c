use Rattle.std.proofs.Common.{◌≡◌, ◌≢◌, ℕ, ◌<◌, false, get_or}
use Rattle.lenstext.proofs.line.has_line_feed.Given as goal

abbrev pub invariant-loop-unit : goal.invariant-loop-unit
invariant-loop-unit l = l.found ≡ false → (k : ℕ) → k < l.unit-index → get_or l.units k 0 ≢ 10
