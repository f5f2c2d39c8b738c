use Rattle.std.proofs.Common.{◌∙◌, ◌≤◌, ◌<◌, length, ap, refl, arith, rules}
use Rattle.std.specs.Prelude.{pos, slice_index_or, FitsSigned}
use Rattle.std.specs.Int.{w64}
use Rattle.std.proofs.lemmas.List.{take_all}
use Rattle.std.proofs.lemmas.Int.{to_z-of_z}
use Rattle.forms.specs.Kept.{in_use}
use Rattle.forms.proofs.Uses.{use_step}
use Rattle.forms.proofs.coefficients.used_of.Goals as goal

pub loop-i-init : goal.loop-i-init
unfolding in_use
loop-i-init c = refl

pub loop-i-preserved : goal.loop-i-preserved
loop-i-preserved c =
    let within : c.loop-i.i < length c.args.ks.now = omega arith in
    let fits : FitsSigned w64 (slice_index_or c.args.ks.now c.loop-i.i (pos 0)) = search rules in
    use_step c.args.ks.now c.loop-i.i c.loop-i.used c.used_with-used.result (slice_index_or c.args.ks.now c.loop-i.i (pos 0)) within refl
    (simp to_z-of_z at c.used_with-used.ensures.with) (simp to_z-of_z at c.used_with-used.ensures.without) c.loop-i.invariant

pub returns : goal.returns
returns c =
    let all : length c.args.ks.now ≤ c.loop-i.i = omega arith in
    c.loop-i.invariant ∙ ap in_use (take_all c.loop-i.i c.args.ks.now all)
