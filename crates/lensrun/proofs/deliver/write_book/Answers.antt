use Rattle.std.proofs.Common.{◌∙◌, subst}
use Rattle.std.proofs.lemmas.Result.{err_from_is_err_and, on_ok_weaker, on_err_weaker}
use Rattle.lensio.specs.Taken.{Takes, TakesFront}
use Rattle.lensrun.proofs.Books.{book_front, book_lines_front, book_taken, book_put_front}
use Rattle.lensrun.proofs.deliver.write_book.Goals as goal

pub returns-in_err-gather_line-clause-front : goal.returns-in_err-gather_line-clause-front
returns-in_err-gather_line-clause-front g c =
    let p = err_from_is_err_and c.from_residual.result c.from_residual.ensures.1 in
    rw p.1 (book_front c.args.book.now c.count.result _ _ c.new-piece.ensures c.count.ensures c.print_glasses.ensures _ _ c.in_err-gather_line.ensures.front)

pub returns-in_err-gather_lines-clause-front : goal.returns-in_err-gather_lines-clause-front
returns-in_err-gather_lines-clause-front g c =
    let p = err_from_is_err_and c.from_residual-in_err-gather_lines.result c.from_residual-in_err-gather_lines.ensures.1 in
    rw p.1 (book_lines_front c.args.book.now c.count.result _ _ c.new-piece.ensures c.count.ensures c.print_glasses.ensures _ _ _ _
    c.in_ok-gather_line.ensures.ok c.in_err-gather_lines.ensures.front)

pub returns-clause-ok : goal.returns-clause-ok
returns-clause-ok g c =
    on_ok_weaker c.put.result
    (λ t. book_taken c.args.book.now c.count.result _ _ c.new-piece.ensures c.count.ensures c.print_glasses.ensures _ _ _ _ _ _
    c.in_ok-gather_line.ensures.ok c.in_ok-gather_lines.ensures.ok (subst (Takes _ _) (c.as_bytes.ensures.value ∙ c.as_str.ensures.value) t))
    c.put.ensures.ok

pub returns-clause-front : goal.returns-clause-front
returns-clause-front g c =
    on_err_weaker c.put.result
    (λ t. book_put_front c.args.book.now c.count.result _ _ c.new-piece.ensures c.count.ensures c.print_glasses.ensures _ _ _ _ _ _
    c.in_ok-gather_line.ensures.ok c.in_ok-gather_lines.ensures.ok (subst (TakesFront _ _) (c.as_bytes.ensures.value ∙ c.as_str.ensures.value) t))
    c.put.ensures.front
