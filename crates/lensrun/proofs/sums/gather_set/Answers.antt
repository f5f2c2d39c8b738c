use Rattle.std.proofs.Common.{refl}
use Rattle.std.proofs.lemmas.Result.{err_from_is_err_and, on_ok_weaker, on_err_weaker}
use Rattle.lensreport.specs.Paraxial.{whole_line}
use Rattle.lensrun.proofs.Paraxials.{set-whole, first_of_three, second_of_three, third_of_three, all_three}
use Rattle.lensrun.proofs.sums.gather_set.Goals as goal

pub returns-in_err-gather_line-clause-front : goal.returns-in_err-gather_line-clause-front
returns-in_err-gather_line-clause-front g c =
    let p = err_from_is_err_and c.from_residual.result c.from_residual.ensures.1 in
    let sums = c.args.sums.now in
    rw p.1 (first_of_three _ _ c.args.piece.now.bytes _ _ _ _
    (set-whole c.args.i sums _ (whole_line sums.scale sums.whole) sums.per.items c.print_set_head.ensures refl refl) c.in_err-gather_line.ensures.front)

pub returns-in_err-gather_surfaces-clause-front : goal.returns-in_err-gather_surfaces-clause-front
returns-in_err-gather_surfaces-clause-front g c =
    let p = err_from_is_err_and c.from_residual-in_err-gather_surfaces.result c.from_residual-in_err-gather_surfaces.ensures.1 in
    let sums = c.args.sums.now in
    rw p.1 (second_of_three _ _ c.args.piece.now.bytes _ _ _ _
    (set-whole c.args.i sums _ (whole_line sums.scale sums.whole) c.as_slice.result.now c.print_set_head.ensures c.as_slice.ensures.value refl)
    _ c.in_ok-gather_line.ensures.ok _ c.in_err-gather_surfaces.ensures.front)

pub returns-clause-ok : goal.returns-clause-ok
returns-clause-ok g c =
    on_ok_weaker c.gather_line-2.result
    (λ t. all_three _ _ c.args.piece.now.bytes _ _ _ _
    (set-whole c.args.i c.args.sums.now _ _ c.as_slice.result.now c.print_set_head.ensures c.as_slice.ensures.value c.print_whole.ensures)
    _ c.in_ok-gather_line.ensures.ok _ _ c.in_ok-gather_surfaces.ensures.ok _ _ t)
    c.gather_line-2.ensures.ok

pub returns-clause-front : goal.returns-clause-front
returns-clause-front g c =
    on_err_weaker c.gather_line-2.result
    (λ t. third_of_three _ _ c.args.piece.now.bytes _ _ _ _
    (set-whole c.args.i c.args.sums.now _ _ c.as_slice.result.now c.print_set_head.ensures c.as_slice.ensures.value c.print_whole.ensures)
    _ c.in_ok-gather_line.ensures.ok _ _ c.in_ok-gather_surfaces.ensures.ok _ t)
    c.gather_line-2.ensures.front
