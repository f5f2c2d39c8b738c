use Rattle.std.proofs.Common.{◌≡◌, ◌∙◌, ◌+◌, ◌*◌, ◌-◌, ◌^◌, ◌<◌, ℕ, max, map, ap, subst, refl, arith}
use Rattle.std.specs.Prelude.{pos, ◌-ℤ◌, ◌*ℤ◌, unsigned_abs}
use Rattle.std.specs.Int.{w64, w128, cast_signed, cast_unsigned, div_ceil}
use Rattle.std.proofs.lemmas.Int.{ints, to_z-of_z, to_z_pos}
use lib.IntN.{*ℤ_comm}
use Rattle.fixdec.specs.Ends.{Ends}
use Rattle.fixdec.specs.Form.{LinearForm, within_cap, moved_form, divided_form, lin_hull, quotients, sizes}
use Rattle.fixdec.specs.Interval.{unit}
use Rattle.fixdec.specs.Root.{root, root_up_by}
use Rattle.forms.specs.Kept.{weighted}
use Rattle.forms.proofs.Answered.{divided_is, divided_lost}
use Rattle.forms.proofs.Lists.{weighted_one}
use Rattle.forms.proofs.Sizes.{as_is, narrow_is, wide_is}
use Rattle.forms.proofs.Uses.{use_length}
use Rattle.forms.proofs.form.roots.root_above.Given.{Over}
use Rattle.forms.proofs.form.roots.root_above.Goals as goal
use Rattle.forms.proofs.form.roots.root_above.Goals.{After-new-by}

pub round_mixed-requires-clause-top : goal.round_mixed-requires-clause-top
round_mixed-requires-clause-top g c = omega (arith, use_length c.a.inside.coefficients)

pub new-by-requires : goal.new-by-requires
new-by-requires g c =
    let above = c.requires.above in
    let same = wide_is c.a.inside.centre (let k = c.a.invariant.kept.fits in omega arith) ∙ ap (λ (f : LinearForm). f.centre) c.a.view_is in
    let positive : 0 < c.root_down-first.result = c.root_down-first.ensures.positive (omega (arith, ints)) in
    let bound = c.root_down-first.ensures.bound in
    record { positive = omega (arith, ints); bound = omega (arith, ints) }

module _ (g : Over) (c : After-new-by g) where
  centre_is : cast_signed w64 (cast_unsigned w64 c.a.inside.centre) ≡ c.args.a.now.centre
  centre_is = narrow_is c.a.inside.centre (let k = c.a.invariant.kept.fits in omega arith) ∙ ap (λ (f : LinearForm). f.centre) c.a.view_is

  wide_centre : cast_signed w128 (cast_unsigned w128 (cast_signed w64 (cast_unsigned w64 c.a.inside.centre))) ≡ c.args.a.now.centre
  wide_centre = wide_is c.a.inside.centre (let k = c.a.invariant.kept.fits in omega arith) ∙ ap (λ (f : LinearForm). f.centre) c.a.view_is

  units : cast_signed w64 (cast_unsigned w64 c.unit-unit.result) ≡ unit g.row.S
  units = to_z-of_z w64 c.unit-unit.result (record { sfits = c.unit-unit.type_inv }) ∙ c.unit-unit.ensures.value

  first_is : c.root_down-first.result ≡ root (unsigned_abs c.args.a.now.centre * 10 ^ g.row.S)
  first_is = c.root_down-first.ensures.value ∙ (λ i. root (unsigned_abs (wide_centre i) * 10 ^ g.row.S))

  divisor : c.new-by.result ≡ pos (2 * root (unsigned_abs c.args.a.now.centre * 10 ^ g.row.S))
  divisor =
      let small = c.root_down-first.ensures.bound in
      c.new-by.ensures ∙ to_z_pos w64 (2 * c.root_down-first.result) (omega arith) ∙ (λ i. pos (2 * first_is i))

  numerators : weighted (cast_signed w64 (cast_unsigned w64 c.unit-unit.result)) c.a.inside.coefficients (pos 0) c.a.inside.coefficients
      ≡ map (λ k. k *ℤ unit g.row.S) c.args.a.now.coefficients
  numerators =
      (λ i. weighted (units i) (c.a.view_is i).coefficients (pos 0) (c.a.view_is i).coefficients)
      ∙ weighted_one (unit g.row.S) c.args.a.now.coefficients
      ∙ (λ i. map (λ k. *ℤ_comm (unit g.row.S) k i) c.args.a.now.coefficients)

-- what stands beside the root
abbrev beside : ℕ → LinearForm → ℕ
beside scale a =
    let s = root (unsigned_abs a.centre * 10 ^ scale) in
    let x = max (s - root (unsigned_abs (lin_hull a).lo * 10 ^ scale)) (root_up_by (unsigned_abs (lin_hull a).hi * 10 ^ scale) - s) in
    div_ceil (a.radius * 10 ^ scale) (2 * s) + div_ceil (x * x) (2 * s)

pub returns-in_default : goal.returns-in_default
returns-in_default g c =
    let d = c.before.before.before.before in
    let a = c.args.a.now in
    let s = root (unsigned_abs a.centre * 10 ^ g.row.S) in
    let lost = c.in_default.ensures.lost refl in
    let same : sizes (quotients c.new-by.result (weighted (cast_signed w64 (cast_unsigned w64 c.unit-unit.result)) c.a.inside.coefficients (pos 0) c.a.inside.coefficients))
    ≡ sizes (quotients (pos (2 * s)) (map (λ k. k *ℤ unit g.row.S) a.coefficients)) = (λ i. sizes (quotients (divisor g d i) (numerators g d i))) in
    divided_lost (pos s) (a.centre *ℤ unit g.row.S -ℤ pos (s * s)) (pos (2 * s)) (map (λ k. k *ℤ unit g.row.S) a.coefficients) (beside g.row.S a)
    (subst (λ (n : ℕ). 1_000_000_000_000_000_000 < n) same lost)

pub returns : goal.returns
returns g c =
    let d = c.before.before.before.before.before.before.before.before.before.before.before.before.before.before.before.before.before.before in
    let a = c.args.a.now in
    let small = c.root_down-first.ensures.bound in
    let s = first_is g d in
    let u = units g d in
    let by = divisor g d in
    let first : cast_signed w64 c.root_down-first.result ≡ pos (root (unsigned_abs a.centre * 10 ^ g.row.S))
    = to_z_pos w64 c.root_down-first.result (omega arith) ∙ ap pos s in
    let centre : cast_signed w128 (cast_unsigned w128 c.left-centre.result) ≡ a.centre *ℤ unit g.row.S -ℤ pos (root (unsigned_abs a.centre * 10 ^ g.row.S) * root (unsigned_abs a.centre * 10 ^ g.row.S))
    = to_z-of_z w128 c.left-centre.result (record { sfits = c.left-centre.type_inv }) ∙ c.left-centre.ensures.value ∙ (λ i. centre_is g d i *ℤ u i -ℤ pos (s i * s i)) in
    let hull = c.hull.view_is ∙ c.hull-hull.ensures in
    let lo : cast_signed w128 (cast_unsigned w128 c.hull.inside.lo) ≡ (lin_hull a).lo
    = as_is c.hull.inside.lo (let k = c.hull.invariant.1 in omega arith) ∙ ap (λ (e : Ends). e.lo) hull in
    let hi : cast_signed w128 (cast_unsigned w128 c.hull.inside.hi) ≡ (lin_hull a).hi
    = as_is c.hull.inside.hi (let k = c.hull.invariant.2 in omega arith) ∙ ap (λ (e : Ends). e.hi) hull in
    let far = c.reach-far.ensures.value
    ∙ (λ i. max (s i - root (unsigned_abs (lo i) * 10 ^ g.row.S)) (root_up_by (unsigned_abs (hi i) * 10 ^ g.row.S) - s i)) in
    let size = c.unsigned_abs.ensures.value ∙ ap unsigned_abs u in
    let plain = c.ceiling.ensures.value ∙ (λ i. div_ceil ((c.size_product.ensures.value ∙ (λ j. (c.a.view_is j).radius * size j)) i) (unsigned_abs (by i))) in
    let square = c.ceiling-2.ensures.value ∙ (λ i. div_ceil ((c.size_product-2.ensures.value ∙ (λ j. far j * far j)) i) (unsigned_abs (by i))) in
    divided_is _ _ _ _ _ _ _ c.in-Some.ensures.value c.in-Some.ensures.remainders c.divided.ensures
    ∙ (λ i. within_cap (moved_form (first i) (divided_form (by i) (centre i) (numerators g d i) (plain i + square i))))
