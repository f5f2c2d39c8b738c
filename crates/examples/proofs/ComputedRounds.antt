-- The parts of a meeting with an even asphere, by computing.
use Rattle.std.proofs.Common.{◌≡◌, [], ◌∷◌, List, subst, refl}
use Rattle.std.specs.Prelude.{ℤ, pos}
use Rattle.fixdec.specs.Ends.{Ends}
use Rattle.fixdec.specs.Operations.{Operations}
use Rattle.fixdec.specs.Steps.{◌>>=◌}
use Rattle.fixdec.specs.declared.step.Step.{Step}
use Rattle.fixdec.specs.declared.step.Step.TheVariants.{Val}
use Rattle.examples.specs.ComputedAspheres.{asphere_setup, into_glass, bent}
use Rattle.examples.specs.ComputedFolds.{folded_setup, skew_ray}
use Rattle.examples.specs.ComputedRounds.{BentParts, FrontParts, SkewParts, SkewRow, SteepRounds, first_parts, far_asphere, steep_skew_ray, steep_asphere}
use Rattle.examples.specs.ComputedRows.{ones, tenths}
use Rattle.examples.specs.Worked.{level_ray}
use Rattle.lensmodel.specs.Rows.Cells.{window_row, cell_rows, pruned}
use Rattle.lensmodel.specs.Rows.Crossing.{arrival_rows}
use Rattle.lensmodel.specs.Rows.Preparation.{preparation_rows}
use Rattle.lensmodel.specs.Rows.SlopeRounds.{hulls, line_hulls, zone2_of, next_rows}
use Rattle.lensmodel.specs.Rows.Start.{start_rows}
use Rattle.lensmodel.specs.Setup.Values.{zero_decimal}
use Rattle.lensmodel.specs.declared.launch.Launch.{Launch}
use Rattle.lensmodel.specs.declared.launch.Launch.TheVariants.{Plain}
use Rattle.lensmodel.specs.declared.setup.Setup.{Setup}
use Rattle.examples.proofs.ComputedAspheres.{opened_aspheres}
use Rattle.examples.proofs.TriedRoots.{operations_by, tried_root, same_operations}
use Rattle.examples.proofs.TriedCells.{cell_by, pruned_by, row_by_trying}

-- these parts in an arithmetic that is given
parts_by : Operations Ends → ℤ → Setup → Launch → Step (List Ends)
parts_by o e s ray = do
  incoming ← start_rows o 6 ray e
  face ← preparation_rows o 6 s e 0
  arrival ← arrival_rows o face incoming e
  w0 ← window_row 6 (hulls o face) (zone2_of o face) e
  w1 ← pruned_by o 6 (hulls o face) (zone2_of o face) (line_hulls o arrival.line) e w0
  w2 ← pruned_by o 6 (hulls o face) (zone2_of o face) (line_hulls o arrival.line) e w1
  sag ← cell_by o 6 (hulls o face) (zone2_of o face) (line_hulls o arrival.line) e w2
  z ← next_rows o 6 face arrival.line e w2
  Val (w0 ∷ w1 ∷ w2 ∷ sag ∷ z ∷ [])

parts_by_trying : (e : ℤ) (s : Setup) (ray : Launch) (x : Step (List Ends)) → parts_by (operations_by tried_root 6) e s ray ≡ x → first_parts e s ray ≡ x
unfolding parts_by pruned cell_rows
parts_by_trying e s ray x h = subst (λ o. parts_by (o 6) e s ray ≡ x) same_operations h

pub bent_parts : BentParts
unfolding opened_aspheres parts_by
bent_parts = parts_by_trying (pos 1) (asphere_setup bent) (level_ray (ones 6)) _ refl

pub front_parts : FrontParts
unfolding opened_aspheres parts_by
front_parts = parts_by_trying (pos 1) folded_setup skew_ray _ refl

pub skew_parts : SkewParts
unfolding opened_aspheres parts_by
skew_parts = parts_by_trying (pos 1000) (into_glass far_asphere) steep_skew_ray _ refl

pub skew_row : SkewRow
unfolding opened_aspheres
skew_row = row_by_trying (record (into_glass far_asphere) { res = 3; width = record { mant = pos 1; exp = pos 2 } }) steep_skew_ray _ refl refl

pub steep_rounds : SteepRounds
unfolding opened_aspheres
steep_rounds = row_by_trying (record (asphere_setup steep_asphere) { width = ones 1 }) (Plain zero_decimal (tenths 21) zero_decimal (tenths 12)) _ refl refl
