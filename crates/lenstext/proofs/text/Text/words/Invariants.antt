use Rattle.std.proofs.Common.{◌≡◌, ◌<◌, ◌≤◌, ◌-◌, ◌++◌, ℕ, length}
use Rattle.std.specs.List.{All}
use Rattle.arrayvec.specs.ArrayVec.{array_vec_len}
use Rattle.lenstext.specs.Ranges.{ranges_from, word_ranges}
use Rattle.lenstext.proofs.text.Text.words.Given as goal

abbrev pub invariant-loop-line : goal.invariant-loop-line
invariant-loop-line l = record {
  near : l.from ≤ length l.line;
  ranges : l.out.items ++ ranges_from l.from l.line ≡ word_ranges l.line;
  within : All (λ (r : ℕ × ℕ). (r.0 < r.1) × (r.1 ≤ length l.line)) l.out.items;
}

abbrev pub decreases-loop-line : goal.decreases-loop-line
decreases-loop-line l = 64 - array_vec_len l.out
