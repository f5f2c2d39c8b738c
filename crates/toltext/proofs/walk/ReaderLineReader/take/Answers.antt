use Rattle.std.proofs.Common.{◌≡◌, true, length, rules, ◌∙◌}
use Rattle.std.proofs.lemmas.Result.{IfErr-weaker}
use Rattle.lensmodel.specs.Files.Tolerances.{is_TOL}
use Rattle.toltext.proofs.Steps.{offence-TOL}
use Rattle.toltext.proofs.walk.ReaderLineReader.take.Goals as goal

pub returns-2-clause-fault : goal.returns-2-clause-fault
returns-2-clause-fault c =
    let t : is_TOL c.args.line.now ≡ true = search rules in
    let e : length c.args.line.now ≡ 4 = search rules in
    let r = c.args.self.now in
    IfErr-weaker c.append.result _ _
    (λ f p own before at. offence-TOL r.image c.args.at before r.list.items c.args.line.now t e at.list ∙ p) c.append.ensures.fault
