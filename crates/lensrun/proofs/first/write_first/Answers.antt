use Rattle.std.proofs.Common.{refl, subst, ◌∙◌}
use Rattle.std.proofs.lemmas.Result.{err_from_is_err_and, on_ok_weaker, on_err_weaker}
use Rattle.lensio.specs.Taken.{Takes, TakesFront}
use Rattle.lensmodel.specs.Paraxial.FirstOrder.{one_decimal}
use Rattle.lensmodel.specs.Setup.Values.{zero_decimal}
use Rattle.lensrun.proofs.Paraxials.{first-scale, first-whole, report_front, report_rest_front, report_taken, report_put_front}
use Rattle.lensrun.proofs.first.write_first.Goals as goal

pub print_first_head-requires-clause-low : goal.print_first_head-requires-clause-low
print_first_head-requires-clause-low g c = (first-scale c.args.s.now one_decimal zero_decimal c.first_order.result c.first_order.ensures.exact).low

pub print_first_head-requires-clause-high : goal.print_first_head-requires-clause-high
print_first_head-requires-clause-high g c = (first-scale c.args.s.now one_decimal zero_decimal c.first_order.result c.first_order.ensures.exact).high

pub returns-in_err-gather_line-clause-front : goal.returns-in_err-gather_line-clause-front
returns-in_err-gather_line-clause-front g c =
    let p = err_from_is_err_and c.from_residual.result c.from_residual.ensures.1 in
    let job = c.args.job.now in
    rw p.1 (report_front _ _ _ _ c.new-piece.ensures (first-whole c.args.s.now job _ _ job.asks c.first_order.ensures.exact c.print_first_head.ensures refl)
    _ _ c.in_err-gather_line.ensures.front)

pub returns-in_err-gather_trails-clause-front : goal.returns-in_err-gather_trails-clause-front
returns-in_err-gather_trails-clause-front g c =
    let p = err_from_is_err_and c.from_residual-in_err-gather_trails.result c.from_residual-in_err-gather_trails.ensures.1 in
    rw p.1 (report_rest_front _ _ _ _ c.new-piece.ensures
    (first-whole c.args.s.now c.args.job.now _ _ _ c.first_order.ensures.exact c.print_first_head.ensures c.as_slice.ensures)
    _ _ _ _ c.in_ok-gather_line.ensures.ok c.in_err-gather_trails.ensures.front)

pub returns-clause-ok : goal.returns-clause-ok
returns-clause-ok g c =
    on_ok_weaker c.put.result
    (λ t. report_taken _ _ _ _ c.new-piece.ensures
    (first-whole c.args.s.now c.args.job.now _ _ _ c.first_order.ensures.exact c.print_first_head.ensures c.as_slice.ensures)
    _ _ _ _ c.in_ok-gather_line.ensures.ok _ c.in_ok-gather_trails.ensures.ok _ (subst (Takes _ _) (c.as_bytes.ensures.value ∙ c.as_str.ensures.value) t))
    c.put.ensures.ok

pub returns-clause-front : goal.returns-clause-front
returns-clause-front g c =
    on_err_weaker c.put.result
    (λ t. report_put_front _ _ _ _ c.new-piece.ensures
    (first-whole c.args.s.now c.args.job.now _ _ _ c.first_order.ensures.exact c.print_first_head.ensures c.as_slice.ensures)
    _ _ _ _ c.in_ok-gather_line.ensures.ok _ c.in_ok-gather_trails.ensures.ok _ (subst (TakesFront _ _) (c.as_bytes.ensures.value ∙ c.as_str.ensures.value) t))
    c.put.ensures.front
