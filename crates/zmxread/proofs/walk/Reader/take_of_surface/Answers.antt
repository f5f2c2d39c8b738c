use Rattle.std.proofs.Common.{rules, ◌≡◌, true, false, ◌∙◌, codes}
use Rattle.std.specs.Prelude.{length}
use Rattle.std.proofs.lemmas.Result.{IfErr-weaker, on_ok_weaker}
use Rattle.lensmodel.specs.Files.LensFaults.{is_of_surface}
use Rattle.lensmodel.specs.Files.Records.{has_tag}
use Rattle.records.specs.Answers.{on_ok2}
use Rattle.zmxread.proofs.Steps.{inner, early-step, other-step, STOP-step, field-step, field-offence}
use Rattle.zmxread.proofs.walk.Reader.take_of_surface.Goals as goal
use Rattle.zmxread.proofs.walk.Reader.take_of_surface.Goals.{then-count-eq0-via-then-count-eq0, then-count-eq0-via-else-count-eq0+then-not-is_of_surface}

pub returns-then-count-eq0-clause-passed : goal.returns-then-count-eq0-clause-passed
returns-then-count-eq0-clause-passed c =
    let r = c.args.self.now in
    let i = inner c.args.line.now c.requires in
    elim c.then-count-eq0.branch [
      | then-count-eq0-via-then-count-eq0 w ↦
          let none : length r.lens.surfaces.items ≡ 0 = search rules in
          on_ok_weaker c.pass_over.result (λ e before at. early-step c.args.at before c.args.line.now r c.pass_over.new.self i at none e) c.pass_over.ensures.unused
      | then-count-eq0-via-else-count-eq0+then-not-is_of_surface w ↦
          let of : is_of_surface c.args.line.now ≡ false = search rules in
          on_ok_weaker c.pass_over.result (λ e before at. other-step c.args.at before c.args.line.now r c.pass_over.new.self i at of e) c.pass_over.ensures.unused
    ]

pub returns-then-has_tag-clause-passed : goal.returns-then-has_tag-clause-passed
returns-then-has_tag-clause-passed c =
    let r = c.args.self.now in
    let stop : has_tag (codes "STOP") c.args.line.now ≡ true = search rules in
    let count : c.len-count.result ≡ length r.lens.surfaces.items = search rules in
    let some : c.len-count.result ≡ 0 → ⊥ = search rules in
    λ before at. STOP-step c.args.at before c.args.line.now r c.len-count.result c.marked-self.result
    (inner c.args.line.now c.requires) at stop count some c.marked-self.ensures

pub returns-clause-passed : goal.returns-clause-passed
returns-clause-passed c =
    let r = c.args.self.now in
    let stop : has_tag (codes "STOP") c.args.line.now ≡ false = search rules in
    let of : is_of_surface c.args.line.now ≡ true = search rules in
    let count : c.len-count.result ≡ length r.lens.surfaces.items = search rules in
    let some : c.len-count.result ≡ 0 → ⊥ = search rules in
    on_ok2 c.take_field.result
    (λ f s before at. field-step c.args.at before c.args.line.now r c.len-count.result c.deref_mut.result.now c.index-deref_mut-count.result
    c.take_field.new.surface (inner c.args.line.now c.requires) at stop of count some c.deref_mut.ensures.value f s)
    c.take_field.ensures.sound c.take_field.ensures.surface

pub returns-clause-fault : goal.returns-clause-fault
returns-clause-fault c =
    let r = c.args.self.now in
    let count : c.len-count.result ≡ length r.lens.surfaces.items = search rules in
    let some : c.len-count.result ≡ 0 → ⊥ = search rules in
    IfErr-weaker c.take_field.result _ _
    (λ f p m before at. field-offence c.args.at before c.args.line.now r c.len-count.result (inner c.args.line.now c.requires) at count some ∙ p)
    c.take_field.ensures.fault
