use Rattle.std.proofs.Common.{◌≡◌, ◌∙◌, ◌+◌, ap, arith}
use Rattle.std.specs.Prelude.{◌-ℤ◌, unsigned_abs}
use Rattle.std.specs.Int.{w64, w128, cast_signed, cast_unsigned}
use Rattle.std.proofs.lemmas.Int.{ints}
use Rattle.fixdec.specs.Ends.{Ends}
use Rattle.fixdec.specs.Form.{LinearForm, within_cap, added_at, lin_symbol}
use Rattle.forms.proofs.Sizes.{as_is, narrow_is, wide_is}
use Rattle.forms.proofs.form.sums.symbol.Goals as goal

pub returns : goal.returns
unfolding lin_symbol
returns g c =
    let a = c.args.a.now in
    let low = c.delta.invariant.1 in
    let high = c.delta.invariant.2 in
    let centre = wide_is c.a.inside.centre (let k = c.a.invariant.kept.fits in omega arith) ∙ ap (λ (f : LinearForm). f.centre) c.a.view_is in
    let narrow : c.narrow.result ≡ c.delta.inside.lo = c.narrow.ensures ∙ as_is c.delta.inside.lo (omega arith) in
    let lo : cast_signed w64 (cast_unsigned w64 c.narrow.result) ≡ c.args.delta.lo
    = (λ i. cast_signed w64 (cast_unsigned w64 (narrow i))) ∙ narrow_is c.delta.inside.lo (omega arith) ∙ ap (λ (e : Ends). e.lo) c.delta.view_is in
    let width : cast_signed w128 (cast_unsigned w128 (cast_signed w128 (cast_unsigned w128 c.delta.inside.hi) -ℤ cast_signed w128 (cast_unsigned w128 c.delta.inside.lo))) ≡ c.delta.inside.hi -ℤ c.delta.inside.lo
    = omega (arith, ints) in
    let size = c.unsigned_abs.ensures.value ∙ ap unsigned_abs width ∙ ap (λ (e : Ends). unsigned_abs (e.hi -ℤ e.lo)) c.delta.view_is in
    let coefficients = c.added_at-coefficients.ensures.value ∙ (λ i. added_at c.args.i (lo i) (c.a.view_is i).coefficients) in
    c.kept.ensures ∙ (λ i. within_cap (record { centre = centre i; coefficients = coefficients i; radius = (c.a.view_is i).radius + size i }))
