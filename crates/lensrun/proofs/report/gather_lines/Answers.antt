use Rattle.std.proofs.Common.{rules}
use Rattle.std.proofs.lemmas.Result.{err_from_is_err_and}
use Rattle.lensrun.proofs.Gathering.{lines-next, lines-front}
use Rattle.lensrun.proofs.report.gather_lines.Goals as goal

pub returns-in_err-gather_line-clause-front : goal.returns-in_err-gather_line-clause-front
returns-in_err-gather_line-clause-front g c =
    let p = err_from_is_err_and c.from_residual.result c.from_residual.ensures.1 in
    rw p.1 (lines-front _ _ _ _ c.args.piece.now.bytes _ c.loop-i.i _ c.print.ensures c.loop-i.invariant.gathers c.in_err-gather_line.ensures.front)

pub loop-i-preserved : goal.loop-i-preserved
loop-i-preserved g c = record {
  gathers = lines-next _ _ _ _ _ c.args.piece.now.bytes _ c.loop-i.i _ c.print.ensures c.loop-i.invariant.gathers c.in_ok-gather_line.ensures.ok;
  calm = search rules;
}
