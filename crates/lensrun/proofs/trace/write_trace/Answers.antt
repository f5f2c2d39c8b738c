use Rattle.std.proofs.Common.{◌∙◌, subst}
use Rattle.std.proofs.lemmas.Result.{err_from_is_err_and, on_ok_weaker, on_err_weaker}
use Rattle.lensio.specs.Taken.{Takes, TakesFront}
use Rattle.lensmodel.specs.Setup.Launches.{job_launches}
use Rattle.lensrun.specs.Traces.{AllHold}
use Rattle.lensrun.proofs.Asks.{spots-hold}
use Rattle.lensrun.proofs.Reports.{image-reached, head_front, asks_front, total_front, trace_taken, trace_put_front}
use Rattle.lensrun.proofs.trace.write_trace.Goals as goal

pub returns-in_err-gather_line-clause-front : goal.returns-in_err-gather_line-clause-front
returns-in_err-gather_line-clause-front g c =
    let p = err_from_is_err_and c.from_residual.result c.from_residual.ensures.1 in
    rw p.1 (head_front c.args.s.now c.args.job.now _ _ c.new-piece.ensures c.print_trace_head.ensures _ _ c.in_err-gather_line.ensures.front)

pub returns-in_err-gather_asks-clause-front : goal.returns-in_err-gather_asks-clause-front
returns-in_err-gather_asks-clause-front g c =
    let p = err_from_is_err_and c.from_residual-in_err-gather_asks.result c.from_residual-in_err-gather_asks.ensures.1 in
    rw p.1 (asks_front c.args.s.now c.args.job.now _ _ c.new-piece.ensures c.print_trace_head.ensures
    _ _ _ _ c.in_ok-gather_line.ensures.ok _ c.as_slice.ensures c.in_err-gather_asks.ensures.front)

pub returns-in_err-gather_line-2-clause-front : goal.returns-in_err-gather_line-2-clause-front
returns-in_err-gather_line-2-clause-front g c =
    let p = err_from_is_err_and c.from_residual-in_err-gather_line-2.result c.from_residual-in_err-gather_line-2.ensures.1 in
    rw p.1 (total_front c.args.s.now c.args.job.now _ _ c.new-piece.ensures c.print_trace_head.ensures
    _ _ _ _ c.in_ok-gather_line.ensures.ok _ c.as_slice.ensures _ c.in_ok-gather_asks.ensures.ok _ _
    (c.print_total.ensures _ c.in_ok-gather_asks.ensures.totals) c.in_err-gather_line-2.ensures.front)

pub returns-clause-ok : goal.returns-clause-ok
returns-clause-ok g c =
    on_ok_weaker c.put.result
    (λ t. trace_taken c.args.s.now c.args.job.now _ _ c.new-piece.ensures c.print_trace_head.ensures
    _ _ _ _ c.in_ok-gather_line.ensures.ok _ c.as_slice.ensures _ c.in_ok-gather_asks.ensures.ok _ _
    (c.print_total.ensures _ c.in_ok-gather_asks.ensures.totals) _ c.in_ok-gather_line-2.ensures.ok _
    (subst (Takes _ _) (c.as_bytes.ensures.value ∙ c.as_str.ensures.value) t))
    c.put.ensures.ok

pub returns-clause-front : goal.returns-clause-front
returns-clause-front g c =
    on_err_weaker c.put.result
    (λ t. trace_put_front c.args.s.now c.args.job.now _ _ c.new-piece.ensures c.print_trace_head.ensures
    _ _ _ _ c.in_ok-gather_line.ensures.ok _ c.as_slice.ensures _ c.in_ok-gather_asks.ensures.ok _ _
    (c.print_total.ensures _ c.in_ok-gather_asks.ensures.totals) _ c.in_ok-gather_line-2.ensures.ok _
    (subst (TakesFront _ _) (c.as_bytes.ensures.value ∙ c.as_str.ensures.value) t))
    c.put.ensures.front

pub returns-clause-rows : goal.returns-clause-rows
returns-clause-rows g c =
    on_ok_weaker c.put.result
    (λ t. subst (λ l. AllHold c.args.s.now (job_launches l)) c.as_slice.ensures c.in_ok-gather_asks.ensures.holds)
    c.put.ensures.ok

pub returns-clause-spots : goal.returns-clause-spots
returns-clause-spots g c =
    on_ok_weaker c.put.result
    (λ t. spots-hold c.args.s.now (image-reached c.args.s.now c.requires.well) c.args.job.now.asks
    (subst (λ l. AllHold c.args.s.now (job_launches l)) c.as_slice.ensures c.in_ok-gather_asks.ensures.holds))
    c.put.ensures.ok
