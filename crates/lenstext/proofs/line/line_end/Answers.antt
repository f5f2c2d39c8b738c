use Rattle.std.proofs.Common.{arith}
use Rattle.lenstext.proofs.Lines.{line_at}
use Rattle.lenstext.proofs.line.line_end.Goals as goal

pub returns-then-units-at-eq-LINE_FEED-clause-line : goal.returns-then-units-at-eq-LINE_FEED-clause-line
returns-then-units-at-eq-LINE_FEED-clause-line c =
    line_at c.args.units.now c.args.start c.loop-at.at c.requires (omega arith) (omega arith) c.loop-at.invariant (λ _. cc)

pub returns-clause-line : goal.returns-clause-line
returns-clause-line c =
    line_at c.args.units.now c.args.start _ c.requires (omega arith) (omega arith) (λ k l h. c.loop-at.invariant k l (omega arith)) (λ h. absurd (omega arith))
