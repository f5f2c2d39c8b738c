use Rattle.std.proofs.Common.{◌++◌, refl, ap, ◌∙◌}
use Rattle.std.proofs.lemmas.Result.{err_from_is_err_and, on_ok_weaker, on_err_weaker}
use Rattle.lensmodel.specs.Call.Trace.{is_single, rows_of, spot_end}
use Rattle.lensmodel.specs.Texts.Rows.{rays_lines}
use Rattle.spotfan.specs.Sums.{Sums}
use Rattle.lensrun.proofs.Asks.{rows-count}
use Rattle.lensrun.proofs.RayLines.{first-front, second-front, both}
use Rattle.lensrun.proofs.trace.gather_ask.Goals as goal

pub returns-in_err-gather_rays-clause-front : goal.returns-in_err-gather_rays-clause-front
returns-in_err-gather_rays-clause-front g c =
    let p = err_from_is_err_and c.from_residual.result c.from_residual.ensures.1 in
    let rows = rows_of c.args.lens.now.setup.now c.args.ask.now in
    rw p.1 (first-front _ _ c.args.piece.now.bytes (rays_lines (is_single c.args.ask.now) c.args.first rows) (spot_end c.args.ask.now rows) _ refl
    c.in_err-gather_rays.ensures.front)

pub print_end-requires-clause-all : goal.print_end-requires-clause-all
print_end-requires-clause-all g c =
    ap (λ (t : Sums). t.rows) c.in_ok-gather_rays.ensures.tally ∙ rows-count c.args.lens.now.setup.now c.args.ask.now

pub returns-clause-ok : goal.returns-clause-ok
returns-clause-ok g c =
    let rows = rows_of c.args.lens.now.setup.now c.args.ask.now in
    let whole = ap (λ l. rays_lines (is_single c.args.ask.now) c.args.first rows ++ l) (c.print_end.ensures rows c.in_ok-gather_rays.ensures.tally) in
    on_ok_weaker c.gather_line.result
    (λ t. both _ _ c.args.piece.now.bytes _ _ _ whole _ c.in_ok-gather_rays.ensures.ok _ _ t)
    c.gather_line.ensures.ok

pub returns-clause-front : goal.returns-clause-front
returns-clause-front g c =
    let rows = rows_of c.args.lens.now.setup.now c.args.ask.now in
    let whole = ap (λ l. rays_lines (is_single c.args.ask.now) c.args.first rows ++ l) (c.print_end.ensures rows c.in_ok-gather_rays.ensures.tally) in
    on_err_weaker c.gather_line.result
    (λ t. second-front _ _ c.args.piece.now.bytes _ _ _ whole _ c.in_ok-gather_rays.ensures.ok _ t)
    c.gather_line.ensures.front
