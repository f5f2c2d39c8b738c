use Rattle.std.proofs.Common.{subst, ◌∙◌}
use Rattle.std.proofs.lemmas.Result.{err_from_is_err_and, on_ok_weaker, on_err_weaker}
use Rattle.lensio.specs.Taken.{Takes, TakesFront}
use Rattle.lensrun.proofs.Paraxials.{seidel-whole, report_front, report_rest_front, report_taken, report_put_front}
use Rattle.lensrun.proofs.sums.write_sums.Goals as goal

pub returns-in_err-gather_line-clause-front : goal.returns-in_err-gather_line-clause-front
returns-in_err-gather_line-clause-front g c =
    let p = err_from_is_err_and c.from_residual.result c.from_residual.ensures.1 in
    rw p.1 (report_front _ _ _ _ c.new-piece.ensures
    (seidel-whole c.args.s.now c.args.job.now _ _ _ c.count.ensures c.print_seidel_head.ensures c.as_slice-asks.ensures)
    _ _ c.in_err-gather_line.ensures.front)

pub returns-in_err-gather_sets-clause-front : goal.returns-in_err-gather_sets-clause-front
returns-in_err-gather_sets-clause-front g c =
    let p = err_from_is_err_and c.from_residual-in_err-gather_sets.result c.from_residual-in_err-gather_sets.ensures.1 in
    rw p.1 (report_rest_front _ _ _ _ c.new-piece.ensures
    (seidel-whole c.args.s.now c.args.job.now _ _ _ c.count.ensures c.print_seidel_head.ensures c.as_slice-asks.ensures)
    _ _ _ _ c.in_ok-gather_line.ensures.ok c.in_err-gather_sets.ensures.front)

pub returns-clause-ok : goal.returns-clause-ok
returns-clause-ok g c =
    on_ok_weaker c.put.result
    (λ t. report_taken _ _ _ _ c.new-piece.ensures
    (seidel-whole c.args.s.now c.args.job.now _ _ _ c.count.ensures c.print_seidel_head.ensures c.as_slice-asks.ensures)
    _ _ _ _ c.in_ok-gather_line.ensures.ok _ c.in_ok-gather_sets.ensures.ok _ (subst (Takes _ _) (c.as_bytes.ensures.value ∙ c.as_str.ensures.value) t))
    c.put.ensures.ok

pub returns-clause-front : goal.returns-clause-front
returns-clause-front g c =
    on_err_weaker c.put.result
    (λ t. report_put_front _ _ _ _ c.new-piece.ensures
    (seidel-whole c.args.s.now c.args.job.now _ _ _ c.count.ensures c.print_seidel_head.ensures c.as_slice-asks.ensures)
    _ _ _ _ c.in_ok-gather_line.ensures.ok _ c.in_ok-gather_sets.ensures.ok _ (subst (TakesFront _ _) (c.as_bytes.ensures.value ∙ c.as_str.ensures.value) t))
    c.put.ensures.front
