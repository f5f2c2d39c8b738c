use Rattle.std.proofs.Common.{◌≡◌, true, false, rules}
use Rattle.lensmodel.specs.Files.Catalogue.{is_NM, is_CD, is_LD}
use Rattle.records.specs.Answers.{on_ok2, on_ok4}
use Rattle.agfread.proofs.Steps.{NM-step, CD-step, LD-step, other-step}
use Rattle.agfread.proofs.walk.ReaderLineReader.take.Goals as goal

pub returns-2-clause-passed : goal.returns-2-clause-passed
returns-2-clause-passed c =
    let e = c.begin.ensures in
    let n : is_NM c.args.line.now ≡ true = search rules in
    on_ok4 c.begin.result
    (λ f o b s before at. NM-step c.args.at before c.args.line.now c.args.self.now c.begin.new.self n at f o b s)
    e.sound e.opened e.book e.seen

pub returns-4-clause-passed : goal.returns-4-clause-passed
returns-4-clause-passed c =
    let e = c.set_used_coefficients.ensures in
    let n : is_NM c.args.line.now ≡ false = search rules in
    let d : is_CD c.args.line.now ≡ true = search rules in
    on_ok2 c.set_used_coefficients.result
    (λ f g before at. CD-step c.args.at before c.args.line.now c.args.self.now c.in-Some.glass c.set_used_coefficients.new.glass n d c.in-Some.is at f g)
    e.sound e.glass

pub returns-6-clause-passed : goal.returns-6-clause-passed
returns-6-clause-passed c =
    let e = c.set_bounds.ensures in
    let n : is_NM c.args.line.now ≡ false = search rules in
    let d : is_CD c.args.line.now ≡ false = search rules in
    let b : is_LD c.args.line.now ≡ true = search rules in
    on_ok2 c.set_bounds.result
    (λ f g before at. LD-step c.args.at before c.args.line.now c.args.self.now c.in-Some-current.glass c.set_bounds.new.glass n d b c.in-Some-current.is at f g)
    e.sound e.glass

pub returns-7-clause-passed : goal.returns-7-clause-passed
returns-7-clause-passed c =
    let n : is_NM c.args.line.now ≡ false = search rules in
    let d : is_CD c.args.line.now ≡ false = search rules in
    let b : is_LD c.args.line.now ≡ false = search rules in
    λ before at. other-step c.args.at before c.args.line.now c.args.self.now n d b at
