use Rattle.std.proofs.Common.{rules, ◌≡◌, true, refl, ◌∙◌}
use Rattle.std.specs.Prelude.{codes}
use Rattle.std.proofs.lemmas.Result.{IfErr-weaker, on_ok_weaker}
use Rattle.lensmodel.specs.Files.Records.{has_tag}
use Rattle.records.specs.Answers.{on_ok2}
use Rattle.zmxread.proofs.LensSteps.{MODE-step, SURF-step, SURF-offence, WAVM-step, PWAV-step}
use Rattle.zmxread.proofs.walk.ReaderLineReader.take.Goals as goal

pub returns-2-clause-passed : goal.returns-2-clause-passed
returns-2-clause-passed c =
    let h : has_tag (codes "MODE") c.args.line.now ≡ true = search rules in
    on_ok_weaker c.check_mode.result (λ f before at. MODE-step c.args.at before c.args.line.now c.args.self.now h at f) c.check_mode.ensures.sound

pub returns-4-clause-passed : goal.returns-4-clause-passed
returns-4-clause-passed c =
    let r = c.args.self.now in
    let h : has_tag (codes "SURF") c.args.line.now ≡ true = search rules in
    let e = c.begin_surface.ensures in
    on_ok2 c.begin_surface.result
    (λ f s before at. SURF-step c.args.at before c.args.line.now r (record r { lens = record r.lens { surfaces = c.begin_surface.new.surfaces } }) h at f s refl refl refl refl)
    e.sound e.surfaces

pub returns-4-clause-fault : goal.returns-4-clause-fault
returns-4-clause-fault c =
    let h : has_tag (codes "SURF") c.args.line.now ≡ true = search rules in
    IfErr-weaker c.begin_surface.result _ _ (λ f p m before at. SURF-offence c.args.at before c.args.line.now c.args.self.now h at ∙ p) c.begin_surface.ensures.fault

pub returns-6-clause-passed : goal.returns-6-clause-passed
returns-6-clause-passed c =
    let r = c.args.self.now in
    let h : has_tag (codes "WAVM") c.args.line.now ≡ true = search rules in
    let e = c.set_wavelength.ensures in
    on_ok2 c.set_wavelength.result
    (λ f w before at. WAVM-step c.args.at before c.args.line.now r (record r { lens = record r.lens { waves = c.set_wavelength.new.waves } }) h at f w refl refl refl refl)
    e.sound e.waves

pub returns-8-clause-passed : goal.returns-8-clause-passed
returns-8-clause-passed c =
    let r = c.args.self.now in
    let h : has_tag (codes "PWAV") c.args.line.now ≡ true = search rules in
    let e = c.in_ok-self.ensures in
    λ before at. PWAV-step c.args.at before c.args.line.now r (record r { lens = record r.lens { primary = c.in_ok-self.field-0 } }) h at e.sound e.number refl refl refl refl
