use Rattle.std.proofs.Common.{refl, arith}
use Rattle.firstorder.proofs.Counts.{well_count}
use Rattle.lensmodel.specs.Paraxial.FirstOrderRows.{first_attempt}
use Rattle.lensmodel.specs.Rows.Constants.{residual_units}
use Rattle.firstorder.proofs.first.rows_of.Goals as goal

pub out_of-requires : goal.out_of-requires
out_of-requires g c =
    let n = well_count c.args.s.now c.requires.well in
    let count = c.ray_through-asked.ensures.count in
    let room = c.ray_through-asked.ensures.room in
    (omega arith, (omega arith, (c.requires.scale, (omega arith, omega arith))))

pub returns-clause-out : goal.returns-clause-out
unfolding first_attempt
returns-clause-out g c =
    let s = c.args.s.now in
    rw (
      c.out_of.ensures s (residual_units g.row.S s.res),
      c.values_of-v.ensures,
      c.ray_through-a.ensures.exact,
      c.ray_through-b.ensures.exact,
      c.ray_through-asked.ensures.exact,
    ) refl

pub returns-clause-by_range : goal.returns-clause-by_range
unfolding first_attempt
returns-clause-by_range g c =
    rw (
      c.is_lost_by_range-by_range.ensures,
      c.values_of-v.ensures,
      c.ray_through-a.ensures.exact,
      c.ray_through-b.ensures.exact,
      c.ray_through-asked.ensures.exact,
    ) refl
