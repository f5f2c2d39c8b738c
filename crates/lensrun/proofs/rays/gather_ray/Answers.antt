use Rattle.std.proofs.Common.{refl}
use Rattle.std.proofs.lemmas.Result.{err_from_is_err_and, on_ok_weaker, on_err_weaker}
use Rattle.lensrun.proofs.RayLines.{first_of, ray-is, ray-slice-is, first-front, second-front, both}
use Rattle.lensrun.proofs.rays.gather_ray.Goals as goal

pub returns-in_err-gather_line-clause-front : goal.returns-in_err-gather_line-clause-front
returns-in_err-gather_line-clause-front g c =
    let p = err_from_is_err_and c.from_residual.result c.from_residual.ensures.1 in
    let row = c.args.row.now in
    rw p.1 (first-front _ _ c.args.piece.now.bytes _ _ _
    (ray-is c.args.single c.args.i (first_of c.args.single row.places.items) row _ row.places.items c.print_ray.ensures refl refl)
    c.in_err-gather_line.ensures.front)

pub returns-clause-ok : goal.returns-clause-ok
returns-clause-ok g c =
    let whole = ray-slice-is c.args.single c.args.i c.first_shown-first.result c.args.row.now _ c.as_slice-places.result.now
    c.print_ray.ensures c.as_slice-places.ensures.value c.first_shown-first.ensures in
    on_ok_weaker c.gather_places.result
    (λ t. both _ _ c.args.piece.now.bytes _ _ _ whole _ c.in_ok-gather_line.ensures.ok _ _ t)
    c.gather_places.ensures.ok

pub returns-clause-front : goal.returns-clause-front
returns-clause-front g c =
    let whole = ray-slice-is c.args.single c.args.i c.first_shown-first.result c.args.row.now _ c.as_slice-places.result.now
    c.print_ray.ensures c.as_slice-places.ensures.value c.first_shown-first.ensures in
    on_err_weaker c.gather_places.result
    (λ t. second-front _ _ c.args.piece.now.bytes _ _ _ whole _ c.in_ok-gather_line.ensures.ok _ t)
    c.gather_places.ensures.front
