use Rattle.std.proofs.Common.{◌≡◌, ◌∙◌, ◌*◌, ◌<◌, ℕ, map, ap, subst, refl, arith}
use Rattle.std.specs.Prelude.{pos, ◌*ℤ◌, unsigned_abs}
use Rattle.std.specs.Int.{w64, w128, cast_signed, cast_unsigned, div_ceil}
use Rattle.std.proofs.lemmas.Int.{to_z-of_z}
use Rattle.fixdec.specs.Form.{LinearForm, within_cap, moved_form, divided_form, quotients, sizes}
use Rattle.forms.specs.Kept.{weighted}
use Rattle.forms.proofs.Answered.{moved_zero, divided_is, divided_lost}
use Rattle.forms.proofs.Lists.{weighted_one}
use Rattle.forms.proofs.Sizes.{narrow_is}
use Rattle.forms.proofs.Uses.{use_length}
use Rattle.forms.proofs.form.rounded.scaled.Goals as goal

pub round_mixed-requires-clause-top : goal.round_mixed-requires-clause-top
round_mixed-requires-clause-top g c = omega (arith, use_length c.a.inside.coefficients)

pub returns-in_default : goal.returns-in_default
returns-in_default g c =
    let a = c.args.a.now in
    let f = to_z-of_z w64 c.args.factor c.ranges.factor in
    let d : c.new-by.result ≡ c.args.divisor = c.new-by.ensures ∙ to_z-of_z w64 c.args.divisor c.ranges.divisor in
    let ns : weighted (cast_signed w64 (cast_unsigned w64 c.args.factor)) c.a.inside.coefficients (pos 0) c.a.inside.coefficients ≡ map (λ k. c.args.factor *ℤ k) a.coefficients
    = (λ i. weighted (f i) (c.a.view_is i).coefficients (pos 0) (c.a.view_is i).coefficients) ∙ weighted_one c.args.factor a.coefficients in
    let lost = c.in_default.ensures.lost refl in
    let same : sizes (quotients c.new-by.result (weighted (cast_signed w64 (cast_unsigned w64 c.args.factor)) c.a.inside.coefficients (pos 0) c.a.inside.coefficients))
    ≡ sizes (quotients c.args.divisor (map (λ k. c.args.factor *ℤ k) a.coefficients)) = (λ i. sizes (quotients (d i) (ns i))) in
    let n = c.args.factor *ℤ a.centre in
    let radius = div_ceil (a.radius * unsigned_abs c.args.factor) (unsigned_abs c.args.divisor) in
    divided_lost (pos 0) n c.args.divisor (map (λ k. c.args.factor *ℤ k) a.coefficients) radius (subst (λ (n : ℕ). 1_000_000_000_000_000_000 < n) same lost)
    ∙ ap within_cap (moved_zero (divided_form c.args.divisor n (map (λ k. c.args.factor *ℤ k) a.coefficients) radius))

pub returns : goal.returns
returns g c =
    let a = c.args.a.now in
    let f = to_z-of_z w64 c.args.factor c.ranges.factor in
    let d : c.new-by.result ≡ c.args.divisor = c.new-by.ensures ∙ to_z-of_z w64 c.args.divisor c.ranges.divisor in
    let ns : weighted (cast_signed w64 (cast_unsigned w64 c.args.factor)) c.a.inside.coefficients (pos 0) c.a.inside.coefficients ≡ map (λ k. c.args.factor *ℤ k) a.coefficients
    = (λ i. weighted (f i) (c.a.view_is i).coefficients (pos 0) (c.a.view_is i).coefficients) ∙ weighted_one c.args.factor a.coefficients in
    let first : cast_signed w64 (cast_unsigned w64 c.a.inside.centre) ≡ a.centre
    = narrow_is c.a.inside.centre (let k = c.a.invariant.kept.fits in omega arith) ∙ ap (λ (f : LinearForm). f.centre) c.a.view_is in
    let centre : cast_signed w128 (cast_unsigned w128 c.product-centre.result) ≡ c.args.factor *ℤ a.centre
    = to_z-of_z w128 c.product-centre.result (record { sfits = c.product-centre.type_inv }) ∙ c.product-centre.ensures.value ∙ (λ i. f i *ℤ first i) in
    let size : c.unsigned_abs.result ≡ unsigned_abs c.args.factor = c.unsigned_abs.ensures.value ∙ ap unsigned_abs f in
    let radius : c.ceiling-radius.result ≡ div_ceil (a.radius * unsigned_abs c.args.factor) (unsigned_abs c.args.divisor)
    = c.ceiling-radius.ensures.value ∙ (λ i. div_ceil ((c.size_product.ensures.value ∙ (λ j. (c.a.view_is j).radius * size j)) i) (unsigned_abs (d i))) in
    let n = c.args.factor *ℤ a.centre in
    divided_is (pos 0) _ _ _ _ _ _ c.in-Some.ensures.value c.in-Some.ensures.remainders c.divided.ensures
    ∙ (λ i. within_cap (moved_form (pos 0) (divided_form (d i) (centre i) (ns i) (radius i))))
    ∙ ap within_cap (moved_zero (divided_form c.args.divisor n (map (λ k. c.args.factor *ℤ k) a.coefficients) (div_ceil (a.radius * unsigned_abs c.args.factor) (unsigned_abs c.args.divisor))))
