use Rattle.std.proofs.Common.{◌≡◌, ℕ, ◌∙◌, ◌^◌, ◌<◌, ap, subst, arith, refl}
use Rattle.std.specs.Prelude.{pos, ◌*ℤ◌, unsigned_abs}
use Rattle.std.specs.Int.{w64, w128, cast_signed, cast_unsigned, div_ceil}
use Rattle.std.proofs.lemmas.Int.{to_z-of_z}
use lib.IntN.{+ℤ_comm}
use Rattle.fixdec.specs.Form.{LinearForm, within_cap, moved_form, divided_form, cross_terms, error_terms, coefficientwise, quotients, sizes}
use Rattle.fixdec.specs.Interval.{unit}
use Rattle.forms.specs.Kept.{weighted}
use Rattle.forms.proofs.Answered.{times_at, divided_is, divided_lost}
use Rattle.forms.proofs.Sizes.{narrow_is}
use Rattle.forms.proofs.Uses.{use_length}
use Rattle.forms.proofs.form.rounded.times.Given.{Over}
use Rattle.forms.proofs.form.rounded.times.Goals as goal
use Rattle.forms.proofs.form.rounded.times.Goals.{After-max}

pub round_mixed-requires-clause-top : goal.round_mixed-requires-clause-top
round_mixed-requires-clause-top g c =
    let m = c.max.ensures in
    omega (arith, use_length c.a.inside.coefficients, use_length c.b.inside.coefficients)

module _ (g : Over) (c : After-max g) where
  first : cast_signed w64 (cast_unsigned w64 c.a.inside.centre) ≡ c.args.a.now.centre
  first = narrow_is c.a.inside.centre (let k = c.a.invariant.kept.fits in omega arith) ∙ ap (λ (f : LinearForm). f.centre) c.a.view_is

  second : cast_signed w64 (cast_unsigned w64 c.b.inside.centre) ≡ c.args.b.now.centre
  second = narrow_is c.b.inside.centre (let k = c.b.invariant.kept.fits in omega arith) ∙ ap (λ (f : LinearForm). f.centre) c.b.view_is

  divisor : c.new-by.result ≡ unit g.row.S
  divisor = c.new-by.ensures ∙ to_z-of_z w64 c.unit.result (record { sfits = c.unit.type_inv }) ∙ c.unit.ensures.value

  numerators : weighted (cast_signed w64 (cast_unsigned w64 c.b.inside.centre)) c.a.inside.coefficients (cast_signed w64 (cast_unsigned w64 c.a.inside.centre)) c.b.inside.coefficients
      ≡ cross_terms c.args.a.now c.args.b.now
  numerators =
      (λ i. weighted (second i) (c.a.view_is i).coefficients (first i) (c.b.view_is i).coefficients)
      ∙ (λ i. coefficientwise (λ k l. +ℤ_comm (c.args.b.now.centre *ℤ k) (c.args.a.now.centre *ℤ l) i) c.args.a.now.coefficients c.args.b.now.coefficients)

pub returns-in_default : goal.returns-in_default
returns-in_default g c =
    let d = c.before.before.before.before in
    let a = c.args.a.now in
    let b = c.args.b.now in
    let lost = c.in_default.ensures.lost refl in
    let same : sizes (quotients c.new-by.result (weighted (cast_signed w64 (cast_unsigned w64 c.b.inside.centre)) c.a.inside.coefficients (cast_signed w64 (cast_unsigned w64 c.a.inside.centre)) c.b.inside.coefficients)) ≡ sizes (quotients (unit g.row.S) (cross_terms a b))
    = (λ i. sizes (quotients (divisor g d i) (numerators g d i))) in
    times_at g.row.S a b (divided_lost (pos 0) (a.centre *ℤ b.centre) (unit g.row.S) (cross_terms a b) (div_ceil (error_terms a b) (10 ^ g.row.S)) (subst (λ (n : ℕ). 1_000_000_000_000_000_000 < n) same lost))

pub returns : goal.returns
returns g c =
    let d = c.before.before.before.before.before.before.before.before.before.before.before.before.before in
    let a = c.args.a.now in
    let b = c.args.b.now in
    let r = c.in-Some.ensures in
    let centre : cast_signed w128 (cast_unsigned w128 c.product-centre.result) ≡ a.centre *ℤ b.centre
    = to_z-of_z w128 c.product-centre.result (record { sfits = c.product-centre.type_inv }) ∙ c.product-centre.ensures.value ∙ (λ i. first g d i *ℤ second g d i) in
    let radius : c.ceiling-radius.result ≡ div_ceil (error_terms a b) (10 ^ g.row.S)
    = c.ceiling-radius.ensures.value ∙ (λ i. div_ceil (c.beside.ensures.value i) (unsigned_abs (divisor g d i))) in
    times_at g.row.S a b (divided_is (pos 0) _ _ _ _ _ _ r.value r.remainders c.divided.ensures
    ∙ (λ i. within_cap (moved_form (pos 0) (divided_form (divisor g d i) (centre i) (numerators g d i) (radius i)))))
