use Rattle.std.proofs.Common.{refl, inl}
use Rattle.lensmodel.specs.Call.Answer.{answer}
use Rattle.lensmodel.specs.Call.TopCall as top
use Rattle.lensmodel.specs.Files.Catalogue.{catalogue}
use Rattle.lensmodel.specs.Texts.Book.{book_text}
use Rattle.lensmodel.specs.Texts.FaultText.{agf_cause}
use Rattle.lensmodel.specs.declared.status.FileKind.TheVariants.{Agf}
use Rattle.lensmodel.specs.declared.status.Status.TheVariants.{Done}
use Rattle.lensrun.proofs.Answered.{one_given, one_none, ready-none}
use Rattle.lensrun.proofs.answer.glass_due.Goals as goal

pub returns-in-Ok-clause-due : goal.returns-in-Ok-clause-due
returns-in-Ok-clause-due g c =
    one_given (g.F.Shelf.held c.args.shelf.now) (top.glass c.args.catalogue.now) Agf c.args.catalogue.now agf_cause catalogue (λ book. answer Done (book_text book))
    (λ files. refl) (λ files. refl) refl (λ files due no. no) c.in-Ok.book _ c.in-Ok.ensures.value refl tt (inl refl)

pub returns-in-Err-clause-due : goal.returns-in-Err-clause-due
returns-in-Err-clause-due g c =
    one_none (g.F.Shelf.held c.args.shelf.now) (top.glass c.args.catalogue.now) Agf c.args.catalogue.now agf_cause catalogue (λ book. answer Done (book_text book))
    (λ files. refl) (λ files. refl) refl (λ files due no. no) c.in-Err.due c.in-Err.ensures.none

pub returns-in-Err-clause-ready : goal.returns-in-Err-clause-ready
returns-in-Err-clause-ready g c =
    ready-none (g.F.Shelf.held c.args.shelf.now) Agf c.args.catalogue.now agf_cause catalogue c.in-Err.due c.in-Err.ensures.none
