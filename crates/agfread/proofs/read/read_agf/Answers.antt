use Rattle.std.proofs.Common.{sym, ap, ◌∙◌}
use Rattle.std.specs.Prelude.{Err, ◌≢◌}
use Rattle.lensmodel.specs.declared.fault.TextFault.TheVariants.{Memory}
use Rattle.std.proofs.lemmas.Result.{IfOk-weaker, IfErr-weaker}
use Rattle.agfread.proofs.Lines.{catalogue-lines, catalogue-fault}
use Rattle.agfread.proofs.read.read_agf.Goals as goal

pub returns-in-Ok-clause-book : goal.returns-in-Ok-clause-book
returns-in-Ok-clause-book c =
    IfOk-weaker c.read_glasses.result _ _ (λ b p. catalogue-lines c.args.bytes.now c.in-Ok.text c.in-Ok.ensures.lines ∙ p) c.read_glasses.ensures.book

pub returns-in-Ok-clause-fault : goal.returns-in-Ok-clause-fault
returns-in-Ok-clause-fault c =
    IfErr-weaker c.read_glasses.result _ _ (λ f p n. catalogue-lines c.args.bytes.now c.in-Ok.text c.in-Ok.ensures.lines ∙ p n) c.read_glasses.ensures.fault

pub returns-in-Err : goal.returns-in-Err
returns-in-Err c =
    let e = c.text_fault.ensures in
    record {
      book = tt;
      fault = λ n. let m : c.in-Err.fault ≢ Memory = λ q. n (e.memory q) in
          catalogue-fault c.args.bytes.now c.in-Err.fault (c.in-Err.ensures.fault m) ∙ ap Err (sym (e.text m));
    }
