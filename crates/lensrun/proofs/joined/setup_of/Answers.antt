use Rattle.std.proofs.Common.{◌≡◌, ◌-◌, ◌∷◌, [], List, length, map, option_map, sym, arith}
use Rattle.std.proofs.lemmas.Result.{err_from_is_err_and}
use Rattle.lensio.specs.TakenLaws.{Takes-trans, TakesFront-whole}
use Rattle.lensrun.specs.Asked.{inputs}
use Rattle.zmxread.specs.File.{lens_file}
use Rattle.lensrun.proofs.Counts.{counted-then, counted-next, counted-most}
use Rattle.lensrun.proofs.Inputs.{no_lens, no_book, no_job, no_box, makes, crosses}
use Rattle.lensrun.proofs.joined.setup_of.Goals as goal

pub returns-in_err-file-clause-none : goal.returns-in_err-file-clause-none
returns-in_err-file-clause-none g c =
    let p = err_from_is_err_and c.from_residual.result c.from_residual.ensures.1 in
    rw (p.1, p.2) (no_lens (g.F.Shelf.held c.args.shelf.now) (inputs c.args.names.now) _ c.in_err-file.ensures.none)

pub returns-in_err-book-clause-none : goal.returns-in_err-book-clause-none
returns-in_err-book-clause-none g c =
    let p = err_from_is_err_and c.from_residual-in_err-book.result c.from_residual-in_err-book.ensures.1 in
    rw (p.1, p.2) (no_book (g.F.Shelf.held c.args.shelf.now) (inputs c.args.names.now) (lens_file c.in_ok-file.file) c.in_ok-file.ensures.value _
    (rw c.in_ok-file.ensures.held at c.in_err-book.ensures.none))

pub returns-in_err-book-clause-asks : goal.returns-in_err-book-clause-asks
returns-in_err-book-clause-asks g c = (2, Takes-trans _ _ _ (c.args.names.now.lens.now ∷ []) (c.args.names.now.catalogue.now ∷ []) c.in_ok-file.ensures.asks c.in_err-book.ensures.asks)

pub returns-in_err-job-clause-none : goal.returns-in_err-job-clause-none
returns-in_err-job-clause-none g c =
    let p = err_from_is_err_and c.from_residual-in_err-job.result c.from_residual-in_err-job.ensures.1 in
    rw (p.1, p.2) (no_job (g.F.Shelf.held c.args.shelf.now) (inputs c.args.names.now) (lens_file c.in_ok-file.file) c.in_ok-file.ensures.value
    c.in_ok-book.book (rw c.in_ok-file.ensures.held at c.in_ok-book.ensures.value) _
    (rw (c.in_ok-book.ensures.held, c.in_ok-file.ensures.held) at c.in_err-job.ensures.none))

pub returns-in_err-job-clause-asks : goal.returns-in_err-job-clause-asks
returns-in_err-job-clause-asks g c = (
  3,
  Takes-trans _ _ _ (c.args.names.now.lens.now ∷ c.args.names.now.catalogue.now ∷ []) (c.args.names.now.job.now ∷ [])
      (Takes-trans _ _ _ (c.args.names.now.lens.now ∷ []) (c.args.names.now.catalogue.now ∷ []) c.in_ok-file.ensures.asks c.in_ok-book.ensures.asks) c.in_err-job.ensures.asks,
)

pub returns-in_err-job-clause-counts : goal.returns-in_err-job-clause-counts
returns-in_err-job-clause-counts g c =
    let p = err_from_is_err_and c.from_residual-in_err-job.result c.from_residual-in_err-job.ensures.1 in
    rw (p.1, p.2) (counted-most _ 3 _ _ _ _ _ _ _ (omega arith)
    (counted-then _ 1 2 _ _ _ _ _ _ _ _ _ c.in_ok-file.ensures.counts (counted-then _ 1 1 _ _ _ _ _ _ _ _ _ c.in_ok-book.ensures.counts c.in_err-job.ensures.counts)))

pub returns-in_err-toler-clause-none : goal.returns-in_err-toler-clause-none
returns-in_err-toler-clause-none g c =
    let p = err_from_is_err_and c.from_residual-in_err-toler.result c.from_residual-in_err-toler.ensures.1 in
    rw (p.1, p.2) (no_box (g.F.Shelf.held c.args.shelf.now) (inputs c.args.names.now) (lens_file c.in_ok-file.file) c.in_ok-file.ensures.value
    c.in_ok-book.book (rw c.in_ok-file.ensures.held at c.in_ok-book.ensures.value)
    c.in_ok-job.job (rw (c.in_ok-book.ensures.held, c.in_ok-file.ensures.held) at c.in_ok-job.ensures.value) _
    (rw (c.len-surfaces.ensures.value, c.in_ok-job.ensures.held, c.in_ok-book.ensures.held, c.in_ok-file.ensures.held) at c.in_err-toler.ensures.none))

pub returns-in_err-toler-clause-asks : goal.returns-in_err-toler-clause-asks
returns-in_err-toler-clause-asks g c =
    TakesFront-whole _ _ _ (Takes-trans _ _ _ (c.args.names.now.lens.now ∷ c.args.names.now.catalogue.now ∷ c.args.names.now.job.now ∷ []) _
    (Takes-trans _ _ _ (c.args.names.now.lens.now ∷ c.args.names.now.catalogue.now ∷ []) (c.args.names.now.job.now ∷ [])
    (Takes-trans _ _ _ (c.args.names.now.lens.now ∷ []) (c.args.names.now.catalogue.now ∷ []) c.in_ok-file.ensures.asks c.in_ok-book.ensures.asks) c.in_ok-job.ensures.asks)
    c.in_err-toler.ensures.asks)

pub returns-in_err-toler-clause-counts : goal.returns-in_err-toler-clause-counts
returns-in_err-toler-clause-counts g c =
    let p = err_from_is_err_and c.from_residual-in_err-toler.result c.from_residual-in_err-toler.ensures.1 in
    rw (p.1, p.2) (counted-next _ _ _ _ _ _ _ _ _ _ _ c.in_ok-file.ensures.counts
    (counted-next _ _ _ _ _ _ _ _ _ _ _ c.in_ok-book.ensures.counts (counted-next _ _ _ _ _ _ _ _ _ _ _ c.in_ok-job.ensures.counts c.in_err-toler.ensures.counts)))

pub returns-in-Ok-clause-asks : goal.returns-in-Ok-clause-asks
returns-in-Ok-clause-asks g c =
    TakesFront-whole _ _ _ (Takes-trans _ _ _ (c.args.names.now.lens.now ∷ c.args.names.now.catalogue.now ∷ c.args.names.now.job.now ∷ []) _
    (Takes-trans _ _ _ (c.args.names.now.lens.now ∷ c.args.names.now.catalogue.now ∷ []) (c.args.names.now.job.now ∷ [])
    (Takes-trans _ _ _ (c.args.names.now.lens.now ∷ []) (c.args.names.now.catalogue.now ∷ []) c.in_ok-file.ensures.asks c.in_ok-book.ensures.asks) c.in_ok-job.ensures.asks)
    c.in_ok-toler.ensures.asks)

pub returns-in-Ok-clause-counts : goal.returns-in-Ok-clause-counts
returns-in-Ok-clause-counts g c =
    counted-next _ _ _ _ _ _ _ _ _ _ _ c.in_ok-file.ensures.counts
    (counted-next _ _ _ _ _ _ _ _ _ _ _ c.in_ok-book.ensures.counts (counted-next _ _ _ _ _ _ _ _ _ _ _ c.in_ok-job.ensures.counts c.in_ok-toler.ensures.counts))

pub returns-in-Ok-clause-setup : goal.returns-in-Ok-clause-setup
returns-in-Ok-clause-setup g c =
    makes (g.F.Shelf.held c.args.shelf.now) (inputs c.args.names.now) (lens_file c.in_ok-file.file) c.in_ok-file.ensures.value
    c.in_ok-book.book (rw c.in_ok-file.ensures.held at c.in_ok-book.ensures.value)
    c.in_ok-job.job (rw (c.in_ok-book.ensures.held, c.in_ok-file.ensures.held) at c.in_ok-job.ensures.value)
    c.in_ok-toler.toler (rw (c.len-surfaces.ensures.value, c.in_ok-job.ensures.held, c.in_ok-book.ensures.held, c.in_ok-file.ensures.held) at c.in_ok-toler.ensures.value)
    c.in-Ok.setup (sym c.in-Ok.ensures.exact)

pub returns-clause-none : goal.returns-clause-none
returns-clause-none g c =
    crosses (g.F.Shelf.held c.args.shelf.now) (inputs c.args.names.now) (lens_file c.in_ok-file.file) c.in_ok-file.ensures.value
    c.in_ok-book.book (rw c.in_ok-file.ensures.held at c.in_ok-book.ensures.value)
    c.in_ok-job.job (rw (c.in_ok-book.ensures.held, c.in_ok-file.ensures.held) at c.in_ok-job.ensures.value)
    c.in_ok-toler.toler (rw (c.len-surfaces.ensures.value, c.in_ok-job.ensures.held, c.in_ok-book.ensures.held, c.in_ok-file.ensures.held) at c.in_ok-toler.ensures.value)
    c.in-Err.fault c.crossed.result (sym c.in-Err.ensures.exact) c.crossed.ensures.answer

pub returns-clause-asks : goal.returns-clause-asks
returns-clause-asks g c =
    TakesFront-whole _ _ _ (Takes-trans _ _ _ (c.args.names.now.lens.now ∷ c.args.names.now.catalogue.now ∷ c.args.names.now.job.now ∷ []) _
    (Takes-trans _ _ _ (c.args.names.now.lens.now ∷ c.args.names.now.catalogue.now ∷ []) (c.args.names.now.job.now ∷ [])
    (Takes-trans _ _ _ (c.args.names.now.lens.now ∷ []) (c.args.names.now.catalogue.now ∷ []) c.in_ok-file.ensures.asks c.in_ok-book.ensures.asks) c.in_ok-job.ensures.asks)
    c.in_ok-toler.ensures.asks)
