use Rattle.std.proofs.Common.{arith}
use Rattle.lenstext.proofs.Words.{from_word}
use Rattle.lenstext.proofs.word.word_end.Goals as goal

pub returns-then-is_separator-clause-first : goal.returns-then-is_separator-clause-first
returns-then-is_separator-clause-first c =
    from_word c.args.line.now c.args.start c.loop-at.at (omega arith) (omega arith) c.loop-at.invariant (λ _. cc)

pub returns-clause-first : goal.returns-clause-first
returns-clause-first c =
    from_word c.args.line.now c.args.start _ (omega arith) (omega arith) (λ k l h. c.loop-at.invariant k l (omega arith)) (λ h. absurd (omega arith))
