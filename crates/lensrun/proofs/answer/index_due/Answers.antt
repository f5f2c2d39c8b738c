use Rattle.std.proofs.Common.{◌≡◌, ◌⊎◌, List, refl, inl, inr}
use Rattle.std.specs.Prelude.{Result, Ok, Err}
use Rattle.lensmodel.specs.Call.Answer.{on_checked, answer}
use Rattle.lensmodel.specs.Call.TopCall as top
use Rattle.lensmodel.specs.Files.Catalogue.{catalogue}
use Rattle.lensmodel.specs.Texts.FaultText.{agf_cause}
use Rattle.lensmodel.specs.declared.status.FileKind.TheVariants.{Agf}
use Rattle.lensrun.specs.Due.{index_answer}
use Rattle.lensrun.proofs.Answered.{one_given, one_none, ready-none, checked-ends}
use Rattle.lensrun.proofs.answer.index_due.Goals as goal

pub returns-in-Ok-clause-due : goal.returns-in-Ok-clause-due
returns-in-Ok-clause-due g c =
    one_given (g.F.Shelf.held c.args.shelf.now) (top.index (record { agf = c.args.catalogue.now; name = c.args.name.now.items; wave = c.args.wave.now })) Agf
    c.args.catalogue.now agf_cause catalogue (index_answer c.args.name.now.items c.args.wave.now)
    (λ files. refl) (λ files. refl) refl (λ files due no. no) c.in-Ok.book _ c.in-Ok.ensures.value c.index_over.ensures.answer c.index_over.ensures.no_trace
    (checked-ends _ _)

pub returns-in-Err-clause-due : goal.returns-in-Err-clause-due
returns-in-Err-clause-due g c =
    one_none (g.F.Shelf.held c.args.shelf.now) (top.index (record { agf = c.args.catalogue.now; name = c.args.name.now.items; wave = c.args.wave.now })) Agf
    c.args.catalogue.now agf_cause catalogue (index_answer c.args.name.now.items c.args.wave.now)
    (λ files. refl) (λ files. refl) refl (λ files due no. no) c.in-Err.due c.in-Err.ensures.none

pub returns-in-Err-clause-ready : goal.returns-in-Err-clause-ready
returns-in-Err-clause-ready g c =
    ready-none (g.F.Shelf.held c.args.shelf.now) Agf c.args.catalogue.now agf_cause catalogue c.in-Err.due c.in-Err.ensures.none
