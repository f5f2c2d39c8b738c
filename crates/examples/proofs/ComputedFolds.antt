-- A ray folded twice, by computing.
use Rattle.std.proofs.Common.{refl}
use Rattle.std.specs.Prelude.{Some}
use Rattle.examples.specs.ComputedFolds.{FoldedRay, FoldedBox, FoldedCoarse, folded_setup, folded_box, skew_ray}
use Rattle.examples.specs.ComputedRows.{ones}
use Rattle.examples.proofs.ComputedAspheres.{opened_aspheres}
use Rattle.examples.proofs.ComputedBoxes.{opened_forms}
use Rattle.examples.proofs.TriedCells.{row_by_trying, boxed_row_by_trying}

pub folded_ray : FoldedRay
unfolding opened_aspheres
folded_ray = row_by_trying folded_setup skew_ray _ refl refl

pub folded_in_box : FoldedBox
unfolding opened_aspheres opened_forms
folded_in_box = boxed_row_by_trying (record folded_setup { toler = Some (record { list = record { items = folded_box } }) }) skew_ray _ refl refl

pub folded_coarse : FoldedCoarse
unfolding opened_aspheres
folded_coarse = row_by_trying (record folded_setup { res = 4; width = ones 10 }) skew_ray _ refl refl
