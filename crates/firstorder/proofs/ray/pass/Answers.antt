use Rattle.std.proofs.Common.{◌≡◌, ◌+◌, suc, refl, arith}
use Rattle.std.specs.Int.{w128}
use Rattle.std.proofs.lemmas.Int.{to_z-of_z}
use Rattle.firstorder.proofs.ray.pass.Goals as goal

pub returns : goal.returns
returns g c =
    let e = c.residual_units-e in
    let place : c.args.before + 1 ≡ suc c.args.before = omega arith in
    rw (
      c.height_worked-next.ensures,
      c.slope_worked-behind.ensures,
      c.of_step-cv.ensures,
      c.of_step-n.ensures,
      c.of_step-n2.ensures,
      c.row_number.ensures,
      c.row_number-2.ensures,
      c.row_number-3.ensures,
      c.row_number-4.ensures,
      c.row_number-5.ensures,
      c.vertex_curvature.ensures,
      c.signed_index.ensures,
      c.signed_index-2.ensures,
      to_z-of_z w128 e.result (record { sfits = e.type_inv }),
      e.ensures.value,
      c.SCALE.ensures,
      place,
    ) refl
