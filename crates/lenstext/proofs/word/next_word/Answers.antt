use Rattle.std.proofs.Common.{sym, ◌∙◌, arith}
use Rattle.lenstext.proofs.Words.{from_end}
use Rattle.lenstext.proofs.word.next_word.Goals as goal

pub returns-then-start-line-clause-first : goal.returns-then-start-line-clause-first
returns-then-start-line-clause-first c =
    sym c.skip_spaces-start.ensures.same ∙ from_end c.args.line.now c.skip_spaces-start.result (omega arith)
