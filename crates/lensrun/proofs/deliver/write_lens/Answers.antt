use Rattle.std.proofs.Common.{◌∙◌, subst}
use Rattle.std.proofs.lemmas.Result.{err_from_is_err_and, on_ok_weaker, on_err_weaker}
use Rattle.lensio.specs.Taken.{Takes, TakesFront}
use Rattle.lensrun.proofs.Lens.{head_front, surfaces_front, waves_front, tags_front, lens_taken, lens_put_front}
use Rattle.lensrun.proofs.deliver.write_lens.Goals as goal

pub returns-in_err-gather_line-clause-front : goal.returns-in_err-gather_line-clause-front
returns-in_err-gather_line-clause-front g c =
    let p = err_from_is_err_and c.from_residual.result c.from_residual.ensures.1 in
    rw p.1 (head_front c.args.file.now.lens c.args.file.now.unused _ _ c.new-piece.ensures c.print_lens.ensures _ _ c.in_err-gather_line.ensures.front)

pub returns-in_err-gather_surfaces-clause-front : goal.returns-in_err-gather_surfaces-clause-front
returns-in_err-gather_surfaces-clause-front g c =
    let p = err_from_is_err_and c.from_residual-in_err-gather_surfaces.result c.from_residual-in_err-gather_surfaces.ensures.1 in
    rw p.1 (surfaces_front c.args.file.now.lens c.args.file.now.unused _ _ c.new-piece.ensures c.print_lens.ensures
    _ _ _ _ c.in_ok-gather_line.ensures.ok c.in_err-gather_surfaces.ensures.front)

pub returns-in_err-gather_lines-clause-front : goal.returns-in_err-gather_lines-clause-front
returns-in_err-gather_lines-clause-front g c =
    let p = err_from_is_err_and c.from_residual-in_err-gather_lines.result c.from_residual-in_err-gather_lines.ensures.1 in
    rw p.1 (waves_front c.args.file.now.lens c.args.file.now.unused _ _ c.new-piece.ensures c.print_lens.ensures
    _ _ _ _ c.in_ok-gather_line.ensures.ok _ c.in_ok-gather_surfaces.ensures.ok _ c.in_err-gather_lines.ensures.front)

pub returns-in_err-gather_lines-2-clause-front : goal.returns-in_err-gather_lines-2-clause-front
returns-in_err-gather_lines-2-clause-front g c =
    let p = err_from_is_err_and c.from_residual-in_err-gather_lines-2.result c.from_residual-in_err-gather_lines-2.ensures.1 in
    rw p.1 (tags_front c.args.file.now.lens c.args.file.now.unused _ _ c.new-piece.ensures c.print_lens.ensures
    _ _ _ _ c.in_ok-gather_line.ensures.ok _ c.in_ok-gather_surfaces.ensures.ok _ _ c.in_ok-gather_lines.ensures.ok _ c.in_err-gather_lines-2.ensures.front)

pub returns-clause-ok : goal.returns-clause-ok
returns-clause-ok g c =
    on_ok_weaker c.put.result
    (λ t. lens_taken c.args.file.now.lens c.args.file.now.unused _ _ c.new-piece.ensures c.print_lens.ensures
    _ _ _ _ c.in_ok-gather_line.ensures.ok _ c.in_ok-gather_surfaces.ensures.ok _ _ c.in_ok-gather_lines.ensures.ok _ _ c.in_ok-gather_lines-2.ensures.ok _
    (subst (Takes _ _) (c.as_bytes.ensures.value ∙ c.as_str.ensures.value) t))
    c.put.ensures.ok

pub returns-clause-front : goal.returns-clause-front
returns-clause-front g c =
    on_err_weaker c.put.result
    (λ t. lens_put_front c.args.file.now.lens c.args.file.now.unused _ _ c.new-piece.ensures c.print_lens.ensures
    _ _ _ _ c.in_ok-gather_line.ensures.ok _ c.in_ok-gather_surfaces.ensures.ok _ _ c.in_ok-gather_lines.ensures.ok _ _ c.in_ok-gather_lines-2.ensures.ok _
    (subst (TakesFront _ _) (c.as_bytes.ensures.value ∙ c.as_str.ensures.value) t))
    c.put.ensures.front
