-- Rows where a case of a definition turns, by computing.
use Rattle.std.proofs.Common.{refl}
use Rattle.examples.specs.ComputedBoxes.{boxed}
use Rattle.examples.specs.ComputedEdges.{BoundMet, BoundPassed, ImageTie, ImageRim, EqualGlass, EqualInBox, TolerantBefore, TolerantBehind, RimLeastMet, RimLeastPassed, RimGreatestMet, millionths, rimmed_image, rim_half, inside_glass, index_tolerance}
use Rattle.examples.specs.ComputedRows.{ones, tenths}
use Rattle.examples.specs.Worked.{plane_setup, slanted_ray, level_ray}
use Rattle.lensmodel.specs.declared.tolerance.TolKind.TheVariants.{Curv}
use Rattle.examples.proofs.ComputedBoxes.{opened_forms}
use Rattle.examples.proofs.ComputedRows.{opened}
use Rattle.examples.proofs.TriedCells.{row_by_trying, boxed_row_by_trying}

pub bound_met : BoundMet
unfolding opened
bound_met = row_by_trying (record plane_setup { width = millionths 278 }) slanted_ray _ refl refl

pub bound_passed : BoundPassed
unfolding opened
bound_passed = row_by_trying (record plane_setup { width = millionths 277 }) slanted_ray _ refl refl

pub image_tie : ImageTie
unfolding opened
image_tie = row_by_trying (rimmed_image (ones 3)) slanted_ray _ refl refl

pub image_rim : ImageRim
unfolding opened
image_rim = row_by_trying (rimmed_image (tenths 29)) slanted_ray _ refl refl

pub equal_glass : EqualGlass
unfolding opened
equal_glass = row_by_trying inside_glass slanted_ray _ refl refl

pub equal_in_box : EqualInBox
unfolding opened_forms
equal_in_box = boxed_row_by_trying (boxed (record { kind = Curv; surface = 1; delta = ones 0 }) (ones 1) inside_glass) slanted_ray _ refl refl

pub tolerant_before : TolerantBefore
unfolding opened_forms
tolerant_before = boxed_row_by_trying (boxed (index_tolerance 0) (ones 1) inside_glass) slanted_ray _ refl refl

pub tolerant_behind : TolerantBehind
unfolding opened_forms
tolerant_behind = boxed_row_by_trying (boxed (index_tolerance 1) (ones 1) inside_glass) slanted_ray _ refl refl

pub rim_least_met : RimLeastMet
unfolding opened
rim_least_met = row_by_trying rim_half (level_ray (millionths 499995)) _ refl refl

pub rim_least_passed : RimLeastPassed
unfolding opened
rim_least_passed = row_by_trying rim_half (level_ray (millionths 499996)) _ refl refl

pub rim_greatest_met : RimGreatestMet
unfolding opened
rim_greatest_met = row_by_trying rim_half (level_ray (millionths 500005)) _ refl refl
