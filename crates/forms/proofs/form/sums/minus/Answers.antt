use Rattle.std.proofs.Common.{◌≡◌, ◌∙◌, ◌+◌, arith}
use Rattle.std.specs.Prelude.{◌-ℤ◌}
use Rattle.std.specs.Int.{w64, w128, cast_signed, cast_unsigned}
use Rattle.std.proofs.lemmas.Int.{ints}
use Rattle.fixdec.specs.Form.{coefficientwise, within_cap, lin_minus}
use Rattle.forms.proofs.Uses.{use_length}
use Rattle.forms.proofs.form.sums.minus.Goals as goal

pub subtract-counted-requires-clause-top : goal.subtract-counted-requires-clause-top
subtract-counted-requires-clause-top g c =
    let m = c.max.ensures in
    omega (arith, use_length c.a.inside.coefficients, use_length c.b.inside.coefficients)

pub returns : goal.returns
unfolding lin_minus
returns g c =
    let first = c.a.invariant.kept.fits in
    let second = c.b.invariant.kept.fits in
    let centre : cast_signed w128 (cast_unsigned w128 (cast_signed w64 (cast_unsigned w64 (cast_signed w64 (cast_unsigned w64 c.a.inside.centre) -ℤ cast_signed w64 (cast_unsigned w64 c.b.inside.centre))))) ≡ c.a.inside.centre -ℤ c.b.inside.centre
    = omega (arith, ints) in
    let difference = centre ∙ (λ i. (c.a.view_is i).centre -ℤ (c.b.view_is i).centre) in
    let coefficients = c.subtract-counted.ensures.value ∙ (λ i. coefficientwise ◌-ℤ◌ (c.a.view_is i).coefficients (c.b.view_is i).coefficients) in
    c.kept.ensures ∙ (λ i. within_cap (record { centre = difference i; coefficients = coefficients i; radius = (c.a.view_is i).radius + (c.b.view_is i).radius }))
