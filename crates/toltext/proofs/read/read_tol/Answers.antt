use Rattle.std.proofs.Common.{sym, ap, ◌∙◌, ◌-◌}
use Rattle.std.specs.Prelude.{Err, ◌≢◌}
use Rattle.lensmodel.specs.declared.fault.TextFault.TheVariants.{Memory}
use Rattle.std.proofs.lemmas.Result.{IfOk-weaker, IfErr-weaker}
use Rattle.lensmodel.specs.Files.Records.{each_record}
use Rattle.lensmodel.specs.Files.Tolerances.{of_lines}
use Rattle.toltext.proofs.Boxes.{lines-box}
use Rattle.toltext.proofs.Lines.{box-lines, box-fault}
use Rattle.toltext.proofs.read.read_tol.Goals as goal

pub returns-in-Ok-clause-value : goal.returns-in-Ok-clause-value
returns-in-Ok-clause-value c =
    let lines = box-lines c.args.bytes.now (c.args.surfaces - 1) c.in-Ok.text c.in-Ok.ensures.lines in
    let image = ap (λ n. of_lines n (each_record c.in-Ok.text)) (sym c.saturating_sub.ensures) in
    IfOk-weaker c.read_tolerances.result _ _ (λ b p. lines ∙ image ∙ p) c.read_tolerances.ensures.value

pub returns-in-Ok-clause-sound : goal.returns-in-Ok-clause-sound
returns-in-Ok-clause-sound c =
    let image = ap (λ n. of_lines n (each_record c.in-Ok.text)) (sym c.saturating_sub.ensures) in
    IfOk-weaker c.read_tolerances.result _ _ (λ b p. lines-box (c.args.surfaces - 1) (each_record c.in-Ok.text) b (image ∙ p)) c.read_tolerances.ensures.value

pub returns-in-Ok-clause-fault : goal.returns-in-Ok-clause-fault
returns-in-Ok-clause-fault c =
    let lines = box-lines c.args.bytes.now (c.args.surfaces - 1) c.in-Ok.text c.in-Ok.ensures.lines in
    let image = ap (λ n. of_lines n (each_record c.in-Ok.text)) (sym c.saturating_sub.ensures) in
    IfErr-weaker c.read_tolerances.result _ _ (λ f p n. lines ∙ image ∙ p) c.read_tolerances.ensures.fault

pub returns-in-Err-clause-fault : goal.returns-in-Err-clause-fault
returns-in-Err-clause-fault c n =
    let e = c.text_fault.ensures in
    let m : c.in-Err.fault ≢ Memory = λ q. n (e.memory q) in
    box-fault c.args.bytes.now (c.args.surfaces - 1) c.in-Err.fault (c.in-Err.ensures.fault m) ∙ ap Err (sym (e.text m))
