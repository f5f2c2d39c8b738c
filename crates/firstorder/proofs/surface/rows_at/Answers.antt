use Rattle.std.proofs.Common.{refl}
use Rattle.std.specs.Int.{w128}
use Rattle.std.proofs.lemmas.Int.{to_z-of_z}
use Rattle.lensmodel.specs.Paraxial.TraceRows.{advance_rows}
use Rattle.firstorder.proofs.surface.rows_at.Goals as goal

pub returns : goal.returns
unfolding advance_rows
returns g c =
    let e = c.residual_units-e in
    rw (
      c.height_from-next.ensures,
      c.slope_from-behind.ensures,
      c.vertex_curvature-cv.ensures,
      c.signed_index-n.ensures,
      c.signed_index-n2.ensures,
      to_z-of_z w128 e.result (record { sfits = e.type_inv }),
      e.ensures.value,
      c.SCALE.ensures,
      c.requires.next,
    ) refl
