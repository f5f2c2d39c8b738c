use Rattle.std.proofs.Common.{◌≡◌, ◌∙◌, ◌+◌, cond, arith}
use Rattle.std.specs.Prelude.{◌+ℤ◌}
use Rattle.std.specs.Int.{w64, w128, cast_signed, cast_unsigned}
use Rattle.std.proofs.lemmas.Int.{ints, to_z-of_z}
use Rattle.fixdec.specs.Form.{within_cap, has_remainder}
use Rattle.fixdec.specs.Rounding.{floor}
use Rattle.forms.proofs.form.rounded.divided.Goals as goal

pub returns : goal.returns
returns g c =
    let number = c.ranges.n in
    let r = c.requires in
    let value : c.quotient-centre.result.floor ≡ floor c.args.n c.args.by.now = simp to_z-of_z at c.quotient-centre.ensures.floor in
    let rest : c.quotient-centre.result.has_remainder ≡ has_remainder c.args.by.now c.args.n = simp to_z-of_z at c.quotient-centre.ensures.remainder in
    let bound = c.quotient-centre.ensures.bound in
    let centre : cast_signed w128 (cast_unsigned w128 (cast_signed w128 (cast_unsigned w128 (cast_signed w64 (cast_unsigned w64 c.args.q))) +ℤ cast_signed w128 (cast_unsigned w128 c.quotient-centre.result.floor))) ≡ c.args.q +ℤ floor c.args.n c.args.by.now
    = rw (← value) (omega (arith, ints, r.moved, r.centre)) in
    let radius = c.counted_with-rest.ensures ∙ (λ i. c.args.rounded.remainders + cond (rest i) 1 0) in
    c.kept.ensures ∙ (λ i. within_cap (record { centre = centre i; coefficients = c.args.coefficients.now; radius = c.args.radius + radius i }))
