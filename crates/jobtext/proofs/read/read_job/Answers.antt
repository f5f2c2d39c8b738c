use Rattle.std.proofs.Common.{sym, ap, ◌∙◌}
use Rattle.std.specs.Prelude.{Err, ◌≢◌}
use Rattle.lensmodel.specs.declared.fault.TextFault.TheVariants.{Memory}
use Rattle.std.proofs.lemmas.Result.{IfOk-weaker, IfErr-weaker}
use Rattle.lensmodel.specs.Files.Records.{each_record}
use Rattle.jobtext.proofs.Lines.{job-lines, job-fault}
use Rattle.jobtext.proofs.Ranges.{lines-sound}
use Rattle.jobtext.proofs.read.read_job.Goals as goal

pub returns-in-Ok-clause-value : goal.returns-in-Ok-clause-value
returns-in-Ok-clause-value c =
    IfOk-weaker c.read_asks.result _ _ (λ j p. job-lines c.args.bytes.now c.in-Ok.text c.in-Ok.ensures.lines ∙ p) c.read_asks.ensures.value

pub returns-in-Ok-clause-sound : goal.returns-in-Ok-clause-sound
returns-in-Ok-clause-sound c = IfOk-weaker c.read_asks.result _ _ (lines-sound (each_record c.in-Ok.text)) c.read_asks.ensures.value

pub returns-in-Ok-clause-fault : goal.returns-in-Ok-clause-fault
returns-in-Ok-clause-fault c =
    IfErr-weaker c.read_asks.result _ _ (λ f p n. job-lines c.args.bytes.now c.in-Ok.text c.in-Ok.ensures.lines ∙ p n) c.read_asks.ensures.fault

pub returns-in-Err-clause-fault : goal.returns-in-Err-clause-fault
returns-in-Err-clause-fault c n =
    let e = c.text_fault.ensures in
    let m : c.in-Err.fault ≢ Memory = λ q. n (e.memory q) in
    job-fault c.args.bytes.now c.in-Err.fault (c.in-Err.ensures.fault m) ∙ ap Err (sym (e.text m))
