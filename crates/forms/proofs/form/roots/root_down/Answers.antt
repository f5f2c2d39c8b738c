use Rattle.std.proofs.Common.{◌∙◌, ◌*◌, ◌^◌, ap}
use Rattle.std.specs.Int.{w128}
use Rattle.std.proofs.lemmas.Int.{to_z-of_z}
use Rattle.fixdec.specs.Root.{root}
use Rattle.std.specs.Prelude.{unsigned_abs}
use Rattle.forms.proofs.Roots.{root_positive}
use Rattle.forms.proofs.form.roots.root_down.Goals as goal

pub returns-clause-positive : goal.returns-clause-positive
returns-clause-positive c =
    let number = to_z-of_z w128 c.args.z c.ranges.z in
    let radicand = c.radicand.ensures.value ∙ (λ i. unsigned_abs (number i) * 10 ^ c.args.scale) in
    rw (c.isqrt_floor.ensures.value ∙ ap root radicand) (root_positive (unsigned_abs c.args.z) c.args.scale)
