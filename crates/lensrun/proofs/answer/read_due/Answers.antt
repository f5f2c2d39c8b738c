use Rattle.std.proofs.Common.{refl, inl}
use Rattle.lensmodel.specs.Call.Answer.{answer}
use Rattle.lensmodel.specs.Call.TopCall as top
use Rattle.lensmodel.specs.Files.Lens.{prescription}
use Rattle.lensmodel.specs.Texts.Lens.{lens_text}
use Rattle.lensmodel.specs.Texts.FaultText.{zmx_cause}
use Rattle.lensmodel.specs.declared.status.FileKind.TheVariants.{Zmx}
use Rattle.lensmodel.specs.declared.status.Status.TheVariants.{Done}
use Rattle.zmxread.specs.File.{lens_file}
use Rattle.lensrun.proofs.Answered.{one_given, one_none, ready-none}
use Rattle.lensrun.proofs.answer.read_due.Goals as goal

pub returns-in-Ok-clause-due : goal.returns-in-Ok-clause-due
returns-in-Ok-clause-due g c =
    one_given (g.F.Shelf.held c.args.shelf.now) (top.read c.args.lens.now) Zmx c.args.lens.now zmx_cause prescription (λ file. answer Done (lens_text file.lens file.unused))
    (λ files. refl) (λ files. refl) refl (λ files due no. no) (lens_file c.in-Ok.file) _ c.in-Ok.ensures.value refl tt (inl refl)

pub returns-in-Err-clause-due : goal.returns-in-Err-clause-due
returns-in-Err-clause-due g c =
    one_none (g.F.Shelf.held c.args.shelf.now) (top.read c.args.lens.now) Zmx c.args.lens.now zmx_cause prescription (λ file. answer Done (lens_text file.lens file.unused))
    (λ files. refl) (λ files. refl) refl (λ files due no. no) c.in-Err.due c.in-Err.ensures.none

pub returns-in-Err-clause-ready : goal.returns-in-Err-clause-ready
returns-in-Err-clause-ready g c =
    ready-none (g.F.Shelf.held c.args.shelf.now) Zmx c.args.lens.now zmx_cause prescription c.in-Err.due c.in-Err.ensures.none
