use Rattle.std.proofs.Common.{◌≡◌, true, length, rules, ◌∙◌}
use Rattle.std.proofs.lemmas.Result.{IfErr-weaker, err_from_is_err_and}
use Rattle.std.specs.Prelude.{codes}
use Rattle.lensmodel.specs.Files.JobFaults.{is_WAVE, is_RES, is_WIDTH, is_PUPIL}
use Rattle.lensmodel.specs.Files.Records.{has_tag}
use Rattle.records.specs.Answers.{on_ok2}
use Rattle.jobtext.proofs.Offences.{WAVE-offence, RES-offence, WIDTH-offence, AIM-offence, FAN-offence, SPOT-offence, WAVE-again, RES-again, WIDTH-again}
use Rattle.jobtext.proofs.Steps.{empty-step, WAVE-step, RES-step, WIDTH-step, PUPIL-step, RAY-step, AIM-step, FAN-step, SPOT-step, FIRST-step, SEIDEL-step}
use Rattle.jobtext.proofs.walk.ReaderLineReader.take.Goals as goal

pub returns-then-is_empty-clause-passed : goal.returns-then-is_empty-clause-passed
returns-then-is_empty-clause-passed c before at = empty-step c.args.at before c.args.line.now c.args.self.now (search rules) at

pub returns-in_default-clause-fault : goal.returns-in_default-clause-fault
returns-in_default-clause-fault c own before at =
    let h : is_WAVE c.args.line.now ≡ true = search rules in
    WAVE-again c.args.at before c.args.line.now c.args.self.now c.in_default.field-0 h c.in_default.is at

pub returns-2-clause-passed : goal.returns-2-clause-passed
returns-2-clause-passed c =
    let e = c.set_wave.ensures in
    let h : is_WAVE c.args.line.now ≡ true = search rules in
    let n : length c.args.line.now ≡ 2 = search rules in
    on_ok2 c.set_wave.result
    (λ f s before at. WAVE-step c.args.at before c.args.line.now c.args.self.now c.set_wave.new.self h n c.in-None.is f s at)
    e.sound e.new

pub returns-2-clause-fault : goal.returns-2-clause-fault
returns-2-clause-fault c =
    let h : is_WAVE c.args.line.now ≡ true = search rules in
    let n : length c.args.line.now ≡ 2 = search rules in
    IfErr-weaker c.set_wave.result _ _
    (λ f p own before at. WAVE-offence c.args.at before c.args.line.now c.args.self.now h n c.in-None.is at ∙ p) c.set_wave.ensures.fault

pub returns-in_default-res-clause-fault : goal.returns-in_default-res-clause-fault
returns-in_default-res-clause-fault c own before at =
    let h : is_RES c.args.line.now ≡ true = search rules in
    RES-again c.args.at before c.args.line.now c.args.self.now c.in_default-res.field-0 h c.in_default-res.is at

pub returns-4-clause-passed : goal.returns-4-clause-passed
returns-4-clause-passed c =
    let e = c.set_res.ensures in
    let h : is_RES c.args.line.now ≡ true = search rules in
    let n : length c.args.line.now ≡ 2 = search rules in
    on_ok2 c.set_res.result
    (λ f s before at. RES-step c.args.at before c.args.line.now c.args.self.now c.set_res.new.self h n c.in-None-res.is f s at)
    e.sound e.new

pub returns-4-clause-fault : goal.returns-4-clause-fault
returns-4-clause-fault c =
    let h : is_RES c.args.line.now ≡ true = search rules in
    let n : length c.args.line.now ≡ 2 = search rules in
    IfErr-weaker c.set_res.result _ _
    (λ f p own before at. RES-offence c.args.at before c.args.line.now c.args.self.now h n c.in-None-res.is at ∙ p) c.set_res.ensures.fault

pub returns-in_default-width-clause-fault : goal.returns-in_default-width-clause-fault
returns-in_default-width-clause-fault c own before at =
    let h : is_WIDTH c.args.line.now ≡ true = search rules in
    WIDTH-again c.args.at before c.args.line.now c.args.self.now c.in_default-width.field-0 h c.in_default-width.is at

pub returns-6-clause-passed : goal.returns-6-clause-passed
returns-6-clause-passed c =
    let e = c.set_width.ensures in
    let h : is_WIDTH c.args.line.now ≡ true = search rules in
    let n : length c.args.line.now ≡ 2 = search rules in
    on_ok2 c.set_width.result
    (λ f s before at. WIDTH-step c.args.at before c.args.line.now c.args.self.now c.set_width.new.self h n c.in-None-width.is f s at)
    e.sound e.new

pub returns-6-clause-fault : goal.returns-6-clause-fault
returns-6-clause-fault c =
    let h : is_WIDTH c.args.line.now ≡ true = search rules in
    let n : length c.args.line.now ≡ 2 = search rules in
    IfErr-weaker c.set_width.result _ _
    (λ f p own before at. WIDTH-offence c.args.at before c.args.line.now c.args.self.now h n c.in-None-width.is at ∙ p) c.set_width.ensures.fault

pub returns-10-clause-passed : goal.returns-10-clause-passed
returns-10-clause-passed c =
    let e = c.set_pupil.ensures in
    let h : is_PUPIL c.args.line.now ≡ true = search rules in
    on_ok2 c.set_pupil.result
    (λ f s before at. PUPIL-step c.args.at before c.args.line.now c.args.self.now c.set_pupil.new.self h f s at)
    e.sound e.new

pub returns-8-clause-passed : goal.returns-8-clause-passed
returns-8-clause-passed c =
    let e = c.push.ensures in
    let h : has_tag (codes "RAY") c.args.line.now ≡ true = search rules in
    let p = c.in_ok-ray.ensures in
    on_ok2 c.push.result
    (λ items others before at. RAY-step c.args.at before c.args.line.now c.args.self.now c.push.new.self c.in_ok-ray.field-0 h p.sound p.value items others at)
    e.asks e.others

pub returns-12-clause-passed : goal.returns-12-clause-passed
returns-12-clause-passed c =
    let e = c.push-2.ensures in
    let h : has_tag (codes "AIM") c.args.line.now ≡ true = search rules in
    let p = c.in_ok-aim.ensures in
    on_ok2 c.push-2.result
    (λ items others before at. AIM-step c.args.at before c.args.line.now c.args.self.now c.push-2.new.self c.in_ok-aim.field-0 h p.sound p.value items others at)
    e.asks e.others

pub returns-in_err-aim-clause-fault : goal.returns-in_err-aim-clause-fault
returns-in_err-aim-clause-fault c =
    let h : has_tag (codes "AIM") c.args.line.now ≡ true = search rules in
    let p = err_from_is_err_and c.from_residual-in_err-aim.result c.from_residual-in_err-aim.ensures.1 in
    rw (p.1, p.2) (λ own before at. AIM-offence c.args.at before c.args.line.now c.args.self.now h at ∙ c.in_err-aim.ensures.fault)

pub returns-14-clause-passed : goal.returns-14-clause-passed
returns-14-clause-passed c =
    let e = c.push-3.ensures in
    let h : has_tag (codes "FAN") c.args.line.now ≡ true = search rules in
    let p = c.in_ok-fan.ensures in
    on_ok2 c.push-3.result
    (λ items others before at. FAN-step c.args.at before c.args.line.now c.args.self.now c.push-3.new.self c.in_ok-fan.field-0 h p.sound p.value items others at)
    e.asks e.others

pub returns-in_err-fan-clause-fault : goal.returns-in_err-fan-clause-fault
returns-in_err-fan-clause-fault c =
    let h : has_tag (codes "FAN") c.args.line.now ≡ true = search rules in
    let p = err_from_is_err_and c.from_residual-in_err-fan.result c.from_residual-in_err-fan.ensures.1 in
    rw (p.1, p.2) (λ own before at. FAN-offence c.args.at before c.args.line.now c.args.self.now h at ∙ c.in_err-fan.ensures.fault)

pub returns-16-clause-passed : goal.returns-16-clause-passed
returns-16-clause-passed c =
    let e = c.push-4.ensures in
    let h : has_tag (codes "SPOT") c.args.line.now ≡ true = search rules in
    let p = c.in_ok-spot.ensures in
    on_ok2 c.push-4.result
    (λ items others before at. SPOT-step c.args.at before c.args.line.now c.args.self.now c.push-4.new.self c.in_ok-spot.field-0 h p.sound p.value items others at)
    e.asks e.others

pub returns-in_err-spot-clause-fault : goal.returns-in_err-spot-clause-fault
returns-in_err-spot-clause-fault c =
    let h : has_tag (codes "SPOT") c.args.line.now ≡ true = search rules in
    let p = err_from_is_err_and c.from_residual-in_err-spot.result c.from_residual-in_err-spot.ensures.1 in
    rw (p.1, p.2) (λ own before at. SPOT-offence c.args.at before c.args.line.now c.args.self.now h at ∙ c.in_err-spot.ensures.fault)

pub returns-18-clause-passed : goal.returns-18-clause-passed
returns-18-clause-passed c =
    let e = c.push-5.ensures in
    let h : has_tag (codes "FIRST") c.args.line.now ≡ true = search rules in
    let p = c.in_ok-first.ensures in
    on_ok2 c.push-5.result
    (λ items others before at. FIRST-step c.args.at before c.args.line.now c.args.self.now c.push-5.new.self c.in_ok-first.field-0 h p.sound p.value items others at)
    e.asks e.others

pub returns-20-clause-passed : goal.returns-20-clause-passed
returns-20-clause-passed c =
    let e = c.push-6.ensures in
    let h : has_tag (codes "SEIDEL") c.args.line.now ≡ true = search rules in
    let p = c.in_ok-seidel.ensures in
    on_ok2 c.push-6.result
    (λ items others before at. SEIDEL-step c.args.at before c.args.line.now c.args.self.now c.push-6.new.self c.in_ok-seidel.field-0 h p.sound p.value items others at)
    e.asks e.others
