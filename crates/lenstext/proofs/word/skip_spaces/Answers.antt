use Rattle.std.proofs.Common.{sym, ◌∙◌, arith}
use Rattle.lenstext.proofs.Words.{from_separator}
use Rattle.lenstext.proofs.word.skip_spaces.Goals as goal

pub loop-at-preserved : goal.loop-at-preserved
loop-at-preserved c = sym (from_separator c.args.line.now c.loop-at.at (omega arith) cc) ∙ c.loop-at.invariant
