use Rattle.std.proofs.Common.{refl}
use Rattle.std.specs.Prelude.{[], ◌∷◌}
use Rattle.firstorder.proofs.Parts.{some-four}
use Rattle.lensmodel.specs.Paraxial.FirstOrderRows.{rows_of}
use Rattle.firstorder.proofs.first.is_lost_by_range.Goals as goal

pub returns : goal.returns
returns g c =
    let v = c.args.v.now in
    rw (
      some-four (rows_of c.args.a.now) (rows_of c.args.b.now) (rows_of c.args.asked.now) (v.efl ∷ v.bfl ∷ v.ffl ∷ v.back ∷ v.front ∷ v.enp ∷ []),
      ← c.is_by_range-of_a.ensures,
      ← c.is_by_range-of_b.ensures,
      ← c.is_by_range-of_asked.ensures,
      ← c.is_by_range-of_values.ensures,
    ) refl
