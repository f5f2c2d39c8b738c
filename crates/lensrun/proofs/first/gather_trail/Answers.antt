use Rattle.std.proofs.Common.{refl}
use Rattle.std.proofs.lemmas.Result.{err_from_is_err_and, on_ok_weaker, on_err_weaker}
use Rattle.lensrun.proofs.Paraxials.{trail-whole}
use Rattle.lensrun.proofs.RayLines.{first-front, second-front, both}
use Rattle.lensrun.proofs.first.gather_trail.Goals as goal

pub returns-in_err-gather_line-clause-front : goal.returns-in_err-gather_line-clause-front
returns-in_err-gather_line-clause-front g c =
    let p = err_from_is_err_and c.from_residual.result c.from_residual.ensures.1 in
    rw p.1 (first-front _ _ c.args.piece.now.bytes _ _ _
    (trail-whole c.args.i c.args.values.now _ c.args.values.now.trail.items c.print_trail_head.ensures refl) c.in_err-gather_line.ensures.front)

pub returns-clause-ok : goal.returns-clause-ok
returns-clause-ok g c =
    let whole = trail-whole c.args.i c.args.values.now _ c.as_slice.result.now c.print_trail_head.ensures c.as_slice.ensures.value in
    on_ok_weaker c.gather_heights.result
    (λ t. both _ _ c.args.piece.now.bytes _ _ _ whole _ c.in_ok-gather_line.ensures.ok _ _ t)
    c.gather_heights.ensures.ok

pub returns-clause-front : goal.returns-clause-front
returns-clause-front g c =
    let whole = trail-whole c.args.i c.args.values.now _ c.as_slice.result.now c.print_trail_head.ensures c.as_slice.ensures.value in
    on_err_weaker c.gather_heights.result
    (λ t. second-front _ _ c.args.piece.now.bytes _ _ _ whole _ c.in_ok-gather_line.ensures.ok _ t)
    c.gather_heights.ensures.front
