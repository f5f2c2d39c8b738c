use Rattle.std.proofs.Common.{sym, ap, ◌∙◌}
use Rattle.std.specs.Prelude.{Err, ◌≢◌}
use Rattle.lensmodel.specs.declared.fault.TextFault.TheVariants.{Memory}
use Rattle.std.proofs.lemmas.Result.{IfOk-weaker, IfErr-weaker}
use Rattle.zmxread.proofs.FileLines.{prescription-lines, prescription-fault}
use Rattle.zmxread.proofs.read.read_zmx.Goals as goal

pub returns-in-Ok-clause-file : goal.returns-in-Ok-clause-file
returns-in-Ok-clause-file c =
    IfOk-weaker c.read_lens.result _ _ (λ f p. prescription-lines c.args.bytes.now c.in-Ok.text c.in-Ok.ensures.lines ∙ p) c.read_lens.ensures.file

pub returns-in-Ok-clause-fault : goal.returns-in-Ok-clause-fault
returns-in-Ok-clause-fault c =
    IfErr-weaker c.read_lens.result _ _ (λ f p n. prescription-lines c.args.bytes.now c.in-Ok.text c.in-Ok.ensures.lines ∙ p n) c.read_lens.ensures.fault

pub returns-in-Err-clause-fault : goal.returns-in-Err-clause-fault
returns-in-Err-clause-fault c =
    let e = c.text_fault.ensures in
    λ n. let m : c.in-Err.fault ≢ Memory = λ q. n (e.memory q) in
    prescription-fault c.args.bytes.now c.in-Err.fault (c.in-Err.ensures.fault m) ∙ ap Err (sym (e.text m))
