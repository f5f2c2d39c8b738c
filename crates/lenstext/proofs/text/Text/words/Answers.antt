use Rattle.std.proofs.Common.{◌++◌, ℕ, List, ap, ◌∙◌, length, arith, rules, tests}
use Rattle.lenstext.specs.Ranges.{ranges_from}
use Rattle.lenstext.proofs.Words.{from_start, all_ranges, full_ranges, first_words}
use Rattle.lenstext.proofs.text.Text.words.Goals as goal

pub loop-line-init : goal.loop-line-init
loop-line-init c = record {
  near = omega arith;
  ranges = ap (λ (rs : List (ℕ × ℕ)). rs ++ ranges_from 0 c.line-line.result.now) c.clear.ensures ∙ from_start c.line-line.result.now;
  within = λ k d h. absurd (omega (arith, ap length c.clear.ensures));
}

pub returns-in_default-clause-ranges : goal.returns-in_default-clause-ranges
returns-in_default-clause-ranges c =
    rw (← c.line-line.ensures.line) (all_ranges c.line-line.result.now _ _ c.loop-line.invariant.ranges c.in_default.ensures.first (omega arith))

pub returns-in_default-clause-words : goal.returns-in_default-clause-words
returns-in_default-clause-words c =
    rw (← c.line-line.ensures.line)
    (first_words _ _ (all_ranges c.line-line.result.now _ _ c.loop-line.invariant.ranges c.in_default.ensures.first (omega arith)))

pub returns-clause-ranges : goal.returns-clause-ranges
returns-clause-ranges c =
    rw (← c.line-line.ensures.line) (full_ranges c.line-line.result.now _ _ c.loop-line.invariant.ranges (search (rules, tests)))

pub returns-clause-words : goal.returns-clause-words
returns-clause-words c =
    rw (← c.line-line.ensures.line)
    (first_words _ _ (full_ranges c.line-line.result.now _ _ c.loop-line.invariant.ranges (search (rules, tests))))
