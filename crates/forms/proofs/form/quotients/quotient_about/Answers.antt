use Rattle.std.proofs.Common.{◌≡◌, ◌∙◌, ◌+◌, ◌-◌, ◌*◌, ◌^◌, ◌≤◌, ◌<◌, ℕ, length, cond, ap, sym, subst, refl, arith}
use Rattle.std.specs.Prelude.{ℤ, pos, ◌+ℤ◌, ◌-ℤ◌, ◌*ℤ◌, unsigned_abs, FitsSigned}
use Rattle.std.specs.Int.{w64, w128, cast_signed, cast_unsigned, div_ceil}
use Rattle.std.proofs.lemmas.Int.{ints, to_z-of_z, to_z_pos, fits_signed_from_abs}
use lib.IntN.{neg_ℤ}
use Rattle.fixdec.specs.Ends.{InCap}
use Rattle.fixdec.specs.Form.{LinearForm, dev, within_cap, sizes, quotients, remainders, has_remainder}
use Rattle.fixdec.specs.Interval.{unit}
use Rattle.fixdec.specs.Rounding.{floor}
use Rattle.forms.specs.Kept.{weighted}
use Rattle.forms.proofs.Answered.{left_centre, left_coefficients, far, about_lost, about_kept, about_none, divided_is}
use Rattle.forms.proofs.Sizes.{narrow_is}
use Rattle.forms.proofs.Turned.{IsTurned, IsWithSign, sign_along, turned_is}
use Rattle.forms.proofs.Uses.{use_length}
use Rattle.forms.proofs.form.quotients.quotient_about.Given.{Over}
use Rattle.forms.proofs.form.quotients.quotient_about.Goals as goal
use Rattle.forms.proofs.form.quotients.quotient_about.Goals.{After-max}

pub round_mixed-requires-clause-top : goal.round_mixed-requires-clause-top
round_mixed-requires-clause-top g c =
    let m = c.max.ensures in
    omega (arith, use_length c.a.inside.coefficients, use_length c.b.inside.coefficients)

module _ (g : Over) (c : After-max g) where
  first_fits : FitsSigned w64 c.a.inside.centre
  first_fits = fits_signed_from_abs w64 c.a.inside.centre (let k = c.a.invariant.kept.fits in omega arith)

  second_fits : FitsSigned w64 c.b.inside.centre
  second_fits = fits_signed_from_abs w64 c.b.inside.centre (let k = c.b.invariant.kept.fits in omega arith)

  first : cast_signed w64 (cast_unsigned w64 c.a.inside.centre) ≡ c.args.a.now.centre
  first = to_z-of_z w64 c.a.inside.centre first_fits ∙ ap (λ (f : LinearForm). f.centre) c.a.view_is

  second : cast_signed w64 (cast_unsigned w64 c.b.inside.centre) ≡ c.args.b.now.centre
  second = to_z-of_z w64 c.b.inside.centre second_fits ∙ ap (λ (f : LinearForm). f.centre) c.b.view_is

  factor : cast_signed w64 (cast_unsigned w64 c.turned-unit.result) ≡ c.turned-unit.result
  factor = to_z-of_z w64 c.turned-unit.result (record { sfits = c.turned-unit.type_inv })

  other : cast_signed w64 (cast_unsigned w64 c.turned-factor.result) ≡ c.turned-factor.result
  other = to_z-of_z w64 c.turned-factor.result (record { sfits = c.turned-factor.type_inv })

  unit_signed : IsWithSign c.args.b.now.centre (unit g.row.S) c.turned-unit.result
  unit_signed = sign_along second (to_z-of_z w64 c.unit.result (record { sfits = c.unit.type_inv }) ∙ c.unit.ensures.value) c.turned-unit.ensures.value

  quotient_signed : IsWithSign c.args.b.now.centre (neg_ℤ c.args.q) c.turned-factor.result
  quotient_signed =
      let cap = c.requires.first in
      let minus : cast_signed w64 (cast_unsigned w64 (pos 0 -ℤ cast_signed w64 (cast_unsigned w64 c.args.q))) ≡ neg_ℤ c.args.q = omega (arith, ints) in
      sign_along second minus c.turned-factor.ensures.value

  unit_size : unsigned_abs (cast_signed w64 (cast_unsigned w64 c.turned-unit.result)) ≡ 10 ^ g.row.S
  unit_size = ap unsigned_abs factor ∙ c.turned-unit.ensures.bound ∙ ap unsigned_abs (to_z-of_z w64 c.unit.result (record { sfits = c.unit.type_inv }) ∙ c.unit.ensures.value)

  deviation_is : c.b.inside.deviation ≡ dev c.args.b.now
  deviation_is = c.b.invariant.deviation_is ∙ ap dev c.b.view_is

  long : length c.args.a.now.coefficients ≡ length c.args.b.now.coefficients
  long = ap (λ (f : LinearForm). length f.coefficients) (sym c.a.view_is) ∙ c.a.told ∙ sym c.b.told ∙ ap (λ (f : LinearForm). length f.coefficients) c.b.view_is

  turned : IsTurned c.args.b.now.centre (c.turned-unit.result *ℤ c.args.a.now.centre +ℤ c.turned-factor.result *ℤ c.args.b.now.centre)
      (left_centre g.row.S c.args.q c.args.a.now c.args.b.now)
      (weighted c.turned-unit.result c.args.a.now.coefficients c.turned-factor.result c.args.b.now.coefficients)
      (left_coefficients g.row.S c.args.q c.args.a.now c.args.b.now)
  turned = turned_is (unit g.row.S) c.args.q c.args.a.now.centre c.turned-unit.result c.turned-factor.result c.args.a.now.coefficients c.args.b.now.coefficients long
      c.args.b.now.centre unit_signed quotient_signed

  numerators : weighted (cast_signed w64 (cast_unsigned w64 c.turned-unit.result)) c.a.inside.coefficients (cast_signed w64 (cast_unsigned w64 c.turned-factor.result)) c.b.inside.coefficients
      ≡ weighted c.turned-unit.result c.args.a.now.coefficients c.turned-factor.result c.args.b.now.coefficients
  numerators = (λ i. weighted (factor i) (c.a.view_is i).coefficients (other i) (c.b.view_is i).coefficients)

pub returns-in_default : goal.returns-in_default
returns-in_default g c =
    let d = c.before.before in
    let a = c.args.a.now in
    let b = c.args.b.now in
    let t = turned g d in
    let lost = c.in_default.ensures.lost refl in
    let same : sizes (quotients c.args.by.now (weighted (cast_signed w64 (cast_unsigned w64 c.turned-unit.result)) c.a.inside.coefficients (cast_signed w64 (cast_unsigned w64 c.turned-factor.result)) c.b.inside.coefficients))
    ≡ sizes (quotients b.centre (left_coefficients g.row.S c.args.q a b))
    = (λ i. sizes (quotients (c.requires.size i) (numerators g d i))) ∙ ap sizes t.quotients_are in
    about_none g.row.S c.args.q a b (subst (λ (n : ℕ). 1_000_000_000_000_000_000 < n) same lost)

-- the sizes that the code makes of the divisor
size_of : (b : LinearForm) (z : ℤ) (n : ℕ) → z ≡ b.centre → InCap z → n ≡ unsigned_abs (cast_signed w64 (cast_unsigned w64 z)) → n ≡ unsigned_abs b.centre
size_of b z n e h s = s ∙ ap unsigned_abs (narrow_is z h ∙ e)

pub new-least-requires-clause-positive : goal.new-least-requires-clause-positive
new-least-requires-clause-positive g c =
    let b = c.args.b.now in
    let size = size_of b c.b.inside.centre c.unsigned_abs.result (ap (λ (f : LinearForm). f.centre) c.b.view_is) (let k = c.b.invariant.kept.fits in omega arith) c.unsigned_abs.ensures.value in
    let deviation : c.b.inside.deviation ≡ dev b = c.b.invariant.deviation_is ∙ ap dev c.b.view_is in
    let far = c.requires.divisor in
    let bound : c.unsigned_abs.result ≤ 10 ^ 18 = (let k = c.b.invariant.kept.fits in let e = ap (λ (f : LinearForm). unsigned_abs f.centre) c.b.view_is in omega arith) in
    omega (arith, ints)

pub new-least-requires-clause-bound : goal.new-least-requires-clause-bound
new-least-requires-clause-bound g c =
    let b = c.args.b.now in
    let size = size_of b c.b.inside.centre c.unsigned_abs.result (ap (λ (f : LinearForm). f.centre) c.b.view_is) (let k = c.b.invariant.kept.fits in omega arith) c.unsigned_abs.ensures.value in
    let bound : c.unsigned_abs.result ≤ 10 ^ 18 = (let k = c.b.invariant.kept.fits in let e = ap (λ (f : LinearForm). unsigned_abs f.centre) c.b.view_is in omega arith) in
    omega (arith, ints)

pub returns-then-unsigned_abs-far : goal.returns-then-unsigned_abs-far
returns-then-unsigned_abs-far g c =
    let h = c.if-unsigned_abs-far.true in
    let u = c.unsigned_abs-3.ensures.value in
    let d = c.before.before.before.before.before.before.before.before.before.before.before.before.before.before.before.before in
    let a = c.args.a.now in
    let b = c.args.b.now in
    let t = turned g d in
    let q = to_z-of_z w64 c.args.q c.ranges.q in
    let deviation = deviation_is g d in
    let centre = to_z-of_z w128 c.mixed_at-centre.result (record { sfits = c.mixed_at-centre.type_inv })
    ∙ c.mixed_at-centre.ensures.value
    ∙ (λ i. factor g d i *ℤ first g d i +ℤ other g d i *ℤ second g d i) in
    let radius = c.left_radius-radius.ensures.value ∙ (λ i. (c.a.view_is i).radius * unit_size g d i + unsigned_abs (q i) * (c.b.view_is i).radius) in
    let size = size_of b c.b.inside.centre c.unsigned_abs.result (ap (λ (f : LinearForm). f.centre) c.b.view_is) (let k = c.b.invariant.kept.fits in omega arith) c.unsigned_abs.ensures.value in
    let bound : c.unsigned_abs.result ≤ 10 ^ 18 = (let k = c.b.invariant.kept.fits in let e = ap (λ (f : LinearForm). unsigned_abs f.centre) c.b.view_is in omega arith) in
    let least = ap unsigned_abs (c.new-least.ensures ∙ to_z_pos w64 (c.unsigned_abs.result - c.b.inside.deviation) (omega arith)) ∙ (λ i. size i - deviation i) in
    let f : c.ceiling-far.result ≡ far g.row.S c.args.q a b
    = c.ceiling-far.ensures.value
    ∙ (λ i. div_ceil ((c.unsigned_abs-2.ensures.value ∙ ap unsigned_abs centre ∙ t.size_is) i + (c.in-Some.ensures.numerators ∙ ap sizes (numerators g d) ∙ t.sizes_are) i + radius i) (least i)) in
    about_lost g.row.S c.args.q a b (omega arith)

pub overflow_add-beside : goal.overflow_add-beside
overflow_add-beside g c =
    let first = c.ceiling.ensures.bound in
    let second = c.ceiling-2.ensures.bound in
    let radius = c.left_radius-radius.ensures.bound in
    let product = c.size_product.ensures.bound in
    record { fits = omega arith }

pub returns : goal.returns
returns g c =
    let d = c.before.before.before.before.before.before.before.before.before.before.before.before.before.before.before.before.before.before.before.before.before in
    let a = c.args.a.now in
    let b = c.args.b.now in
    let t = turned g d in
    let q = to_z-of_z w64 c.args.q c.ranges.q in
    let deviation = deviation_is g d in
    let centre = to_z-of_z w128 c.mixed_at-centre.result (record { sfits = c.mixed_at-centre.type_inv })
    ∙ c.mixed_at-centre.ensures.value
    ∙ (λ i. factor g d i *ℤ first g d i +ℤ other g d i *ℤ second g d i) in
    let radius = c.left_radius-radius.ensures.value ∙ (λ i. (c.a.view_is i).radius * unit_size g d i + unsigned_abs (q i) * (c.b.view_is i).radius) in
    let size = size_of b c.b.inside.centre c.unsigned_abs.result (ap (λ (f : LinearForm). f.centre) c.b.view_is) (let k = c.b.invariant.kept.fits in omega arith) c.unsigned_abs.ensures.value in
    let bound : c.unsigned_abs.result ≤ 10 ^ 18 = (let k = c.b.invariant.kept.fits in let e = ap (λ (f : LinearForm). unsigned_abs f.centre) c.b.view_is in omega arith) in
    let least = ap unsigned_abs (c.new-least.ensures ∙ to_z_pos w64 (c.unsigned_abs.result - c.b.inside.deviation) (omega arith)) ∙ (λ i. size i - deviation i) in
    let f : c.ceiling-far.result ≡ far g.row.S c.args.q a b
    = c.ceiling-far.ensures.value
    ∙ (λ i. div_ceil ((c.unsigned_abs-2.ensures.value ∙ ap unsigned_abs centre ∙ t.size_is) i + (c.in-Some.ensures.numerators ∙ ap sizes (numerators g d) ∙ t.sizes_are) i + radius i) (least i)) in
    let S = g.row.S in
    let by = c.requires.size in
    let far_size : far S c.args.q a b ≤ 1_000_000_000_000_000_000 = (let h = c.if-unsigned_abs-far.false in let u = c.unsigned_abs-3.ensures.value in omega arith) in
    let floor_of : floor (cast_signed w128 (cast_unsigned w128 c.mixed_at-centre.result)) c.args.by.now ≡ floor (left_centre S c.args.q a b) b.centre
    = (λ i. floor (centre i) (by i)) ∙ t.floor_is in
    let remainder : has_remainder c.args.by.now (cast_signed w128 (cast_unsigned w128 c.mixed_at-centre.result)) ≡ has_remainder b.centre (left_centre S c.args.q a b)
    = (λ i. has_remainder (by i) (centre i)) ∙ t.remainder_is in
    let plain = c.ceiling.ensures.value ∙ (λ i. div_ceil (radius i) (unsigned_abs (by i))) in
    let second_order = c.ceiling-2.ensures.value ∙ (λ i. div_ceil ((c.size_product.ensures.value ∙ (λ j. f j * deviation j)) i) (unsigned_abs (by i))) in
    let value = c.in-Some.ensures.value ∙ (λ i. quotients (by i) (numerators g d i)) ∙ t.quotients_are in
    let counted = c.in-Some.ensures.remainders ∙ (λ i. remainders (by i) (numerators g d i)) ∙ t.remainders_are in
    about_kept S c.args.q a b far_size
    (divided_is c.args.q (left_centre S c.args.q a b) b.centre (left_coefficients S c.args.q a b) _ _ _ value counted
    (c.divided.ensures ∙ (λ i. within_cap (record { centre = q i +ℤ floor_of i; coefficients = c.round_mixed.new.out; radius = plain i + second_order i + (c.in-Some.rounded.remainders + cond (remainder i) 1 0) }))))
