use Rattle.std.proofs.Common.{◌≡◌, ◌∙◌, ◌<◌, ◌≤◌, ◌^◌, ap, rules, arith}
use Rattle.std.specs.Prelude.{pos, ◌*ℤ◌, unsigned_abs, FitsSigned}
use Rattle.std.specs.Int.{w64, w128, cast_signed, cast_unsigned}
use Rattle.std.proofs.lemmas.Int.{to_z-of_z, to_z_pos}
use Rattle.fixdec.specs.Form.{LinearForm, dev, quotient_about}
use Rattle.fixdec.specs.Interval.{unit}
use Rattle.fixdec.specs.Rounding.{floor}
use Rattle.forms.proofs.Overs.{first, over_zero, over_far, over_about}
use Rattle.forms.proofs.Sizes.{narrow_is}
use Rattle.forms.proofs.Turned.{first_turned, sign_along}
use Rattle.forms.proofs.form.quotients.over.Goals as goal

pub returns-then-unsigned_abs-b : goal.returns-then-unsigned_abs-b
returns-then-unsigned_abs-b g c =
    let a = c.args.a.now in
    let b = c.args.b.now in
    let second = narrow_is c.b.inside.centre (let k = c.b.invariant.kept.fits in omega arith) ∙ ap (λ (f : LinearForm). f.centre) c.b.view_is in
    let deviation = c.b.invariant.deviation_is ∙ ap dev c.b.view_is in
    let size = c.unsigned_abs.ensures.value ∙ ap unsigned_abs second in
    let h = c.if-unsigned_abs-b.true in
    over_zero g.row.S a b (omega arith)

pub returns-then-unsigned_abs : goal.returns-then-unsigned_abs
returns-then-unsigned_abs g c =
    let a = c.args.a.now in
    let b = c.args.b.now in
    let second = narrow_is c.b.inside.centre (let k = c.b.invariant.kept.fits in omega arith) ∙ ap (λ (f : LinearForm). f.centre) c.b.view_is in
    let deviation = c.b.invariant.deviation_is ∙ ap dev c.b.view_is in
    let size = c.unsigned_abs.ensures.value ∙ ap unsigned_abs second in
    let h = c.if-unsigned_abs-b.false in
    let above : dev b < unsigned_abs b.centre = omega arith in
    let dividend = narrow_is c.a.inside.centre (let k = c.a.invariant.kept.fits in omega arith) ∙ ap (λ (f : LinearForm). f.centre) c.a.view_is in
    let same = c.unsigned_abs-2.ensures.value ∙ ap unsigned_abs second in
    let bound : c.unsigned_abs-2.result ≤ 10 ^ 18 = (let k = c.b.invariant.kept.fits in let e = ap (λ (f : LinearForm). unsigned_abs f.centre) c.b.view_is in omega arith) in
    let by : c.new-by.result ≡ pos (unsigned_abs b.centre) = c.new-by.ensures ∙ to_z_pos w64 c.unsigned_abs-2.result (omega arith) ∙ ap pos same in
    let signed = sign_along second (to_z-of_z w64 c.unit.result (record { sfits = c.unit.type_inv }) ∙ c.unit.ensures.value) c.turned.ensures.value in
    let factor = to_z-of_z w64 c.turned.result (record { sfits = c.turned.type_inv }) in
    let product = to_z-of_z w128 c.product.result (record { sfits = c.product.type_inv }) ∙ c.product.ensures.value ∙ (λ i. dividend i *ℤ factor i) in
    let first_is : c.quotient-first.result.floor ≡ first g.row.S a b
    = c.quotient-first.ensures.floor ∙ (λ i. floor (product i) (by i)) ∙ first_turned (unit g.row.S) a.centre b.centre c.turned.result signed in
    let fits : FitsSigned w128 c.quotient-first.result.floor = search rules in
    let magnitude : c.unsigned_abs-4.result ≡ unsigned_abs c.quotient-first.result.floor = simp to_z-of_z at c.unsigned_abs-4.ensures.value in
    let cap = c.unsigned_abs-3.ensures.value in
    let large = ap unsigned_abs first_is in
    let k = c.if-unsigned_abs.true in
    over_far g.row.S a b above (omega arith)

pub quotient_about-requires : goal.quotient_about-requires
quotient_about-requires g c =
    let a = c.args.a.now in
    let b = c.args.b.now in
    let second = narrow_is c.b.inside.centre (let k = c.b.invariant.kept.fits in omega arith) ∙ ap (λ (f : LinearForm). f.centre) c.b.view_is in
    let deviation = c.b.invariant.deviation_is ∙ ap dev c.b.view_is in
    let size = c.unsigned_abs.ensures.value ∙ ap unsigned_abs second in
    let h = c.if-unsigned_abs-b.false in
    let above : dev b < unsigned_abs b.centre = omega arith in
    let dividend = narrow_is c.a.inside.centre (let k = c.a.invariant.kept.fits in omega arith) ∙ ap (λ (f : LinearForm). f.centre) c.a.view_is in
    let same = c.unsigned_abs-2.ensures.value ∙ ap unsigned_abs second in
    let bound : c.unsigned_abs-2.result ≤ 10 ^ 18 = (let k = c.b.invariant.kept.fits in let e = ap (λ (f : LinearForm). unsigned_abs f.centre) c.b.view_is in omega arith) in
    let by : c.new-by.result ≡ pos (unsigned_abs b.centre) = c.new-by.ensures ∙ to_z_pos w64 c.unsigned_abs-2.result (omega arith) ∙ ap pos same in
    let signed = sign_along second (to_z-of_z w64 c.unit.result (record { sfits = c.unit.type_inv }) ∙ c.unit.ensures.value) c.turned.ensures.value in
    let factor = to_z-of_z w64 c.turned.result (record { sfits = c.turned.type_inv }) in
    let product = to_z-of_z w128 c.product.result (record { sfits = c.product.type_inv }) ∙ c.product.ensures.value ∙ (λ i. dividend i *ℤ factor i) in
    let first_is : c.quotient-first.result.floor ≡ first g.row.S a b
    = c.quotient-first.ensures.floor ∙ (λ i. floor (product i) (by i)) ∙ first_turned (unit g.row.S) a.centre b.centre c.turned.result signed in
    let fits : FitsSigned w128 c.quotient-first.result.floor = search rules in
    let magnitude : c.unsigned_abs-4.result ≡ unsigned_abs c.quotient-first.result.floor = simp to_z-of_z at c.unsigned_abs-4.ensures.value in
    let cap = c.unsigned_abs-3.ensures.value in
    let large = ap unsigned_abs first_is in
    let k = c.if-unsigned_abs.false in
    let narrow : c.narrow.result ≡ c.quotient-first.result.floor = simp to_z-of_z at c.narrow.ensures in
    let q : cast_signed w64 (cast_unsigned w64 c.narrow.result) ≡ first g.row.S a b
    = to_z-of_z w64 c.narrow.result (record { sfits = c.narrow.type_inv }) ∙ narrow ∙ first_is in
    let scale = c.requires in
    (omega arith, (omega arith, (rw q (omega arith), (above, by))))

pub returns : goal.returns
returns g c =
    let a = c.args.a.now in
    let b = c.args.b.now in
    let second = narrow_is c.b.inside.centre (let k = c.b.invariant.kept.fits in omega arith) ∙ ap (λ (f : LinearForm). f.centre) c.b.view_is in
    let deviation = c.b.invariant.deviation_is ∙ ap dev c.b.view_is in
    let size = c.unsigned_abs.ensures.value ∙ ap unsigned_abs second in
    let h = c.if-unsigned_abs-b.false in
    let above : dev b < unsigned_abs b.centre = omega arith in
    let dividend = narrow_is c.a.inside.centre (let k = c.a.invariant.kept.fits in omega arith) ∙ ap (λ (f : LinearForm). f.centre) c.a.view_is in
    let same = c.unsigned_abs-2.ensures.value ∙ ap unsigned_abs second in
    let bound : c.unsigned_abs-2.result ≤ 10 ^ 18 = (let k = c.b.invariant.kept.fits in let e = ap (λ (f : LinearForm). unsigned_abs f.centre) c.b.view_is in omega arith) in
    let by : c.new-by.result ≡ pos (unsigned_abs b.centre) = c.new-by.ensures ∙ to_z_pos w64 c.unsigned_abs-2.result (omega arith) ∙ ap pos same in
    let signed = sign_along second (to_z-of_z w64 c.unit.result (record { sfits = c.unit.type_inv }) ∙ c.unit.ensures.value) c.turned.ensures.value in
    let factor = to_z-of_z w64 c.turned.result (record { sfits = c.turned.type_inv }) in
    let product = to_z-of_z w128 c.product.result (record { sfits = c.product.type_inv }) ∙ c.product.ensures.value ∙ (λ i. dividend i *ℤ factor i) in
    let first_is : c.quotient-first.result.floor ≡ first g.row.S a b
    = c.quotient-first.ensures.floor ∙ (λ i. floor (product i) (by i)) ∙ first_turned (unit g.row.S) a.centre b.centre c.turned.result signed in
    let fits : FitsSigned w128 c.quotient-first.result.floor = search rules in
    let magnitude : c.unsigned_abs-4.result ≡ unsigned_abs c.quotient-first.result.floor = simp to_z-of_z at c.unsigned_abs-4.ensures.value in
    let cap = c.unsigned_abs-3.ensures.value in
    let large = ap unsigned_abs first_is in
    let k = c.if-unsigned_abs.false in
    let narrow : c.narrow.result ≡ c.quotient-first.result.floor = simp to_z-of_z at c.narrow.ensures in
    let q : cast_signed w64 (cast_unsigned w64 c.narrow.result) ≡ first g.row.S a b
    = to_z-of_z w64 c.narrow.result (record { sfits = c.narrow.type_inv }) ∙ narrow ∙ first_is in
    over_about g.row.S a b above (omega arith) (c.quotient_about.ensures ∙ ap (λ z. quotient_about g.row.S z a b) q)
