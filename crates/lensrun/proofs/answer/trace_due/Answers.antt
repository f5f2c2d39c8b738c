use Rattle.std.proofs.Common.{refl}
use Rattle.lensmodel.specs.Call.Trace.{trace_text}
use Rattle.lensmodel.specs.Call.TopCall as top
use Rattle.lensrun.specs.Asked.{inputs}
use Rattle.lensrun.proofs.Answered.{setup_given, setup_none, ready-no_report}
use Rattle.lensrun.proofs.answer.trace_due.Goals as goal

pub returns-in-Ok-clause-due : goal.returns-in-Ok-clause-due
returns-in-Ok-clause-due g c =
    setup_given (g.F.Shelf.held c.args.shelf.now) (inputs c.args.names.now) (top.trace (inputs c.args.names.now)) trace_text (λ files. refl) refl
    c.in-Ok.tracing.setup c.in-Ok.tracing.job _ refl (λ files are done. (c.in-Ok.tracing, refl, are)) c.in-Ok.ensures.given

pub returns-in-Err-clause-due : goal.returns-in-Err-clause-due
returns-in-Err-clause-due g c =
    setup_none (g.F.Shelf.held c.args.shelf.now) (inputs c.args.names.now) (top.trace (inputs c.args.names.now)) trace_text (λ files. refl) refl
    (λ files due no done. absurd (no done)) c.in-Err.due c.in-Err.ensures.none

pub returns-in-Err-clause-ready : goal.returns-in-Err-clause-ready
returns-in-Err-clause-ready g c = ready-no_report c.in-Err.due c.in-Err.ensures.none.no_report
