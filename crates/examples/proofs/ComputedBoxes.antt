-- Worked rows with a box, and worked indices, by computing.
use Rattle.std.proofs.Common.{◌≡◌, ℕ, subst, refl}
use Rattle.std.specs.Prelude.{pos, negsuc}
use Rattle.fixdec.specs.Decimal.{Decimal}
use Rattle.fixdec.specs.Ends.{Ends}
use Rattle.fixdec.specs.Form.{lin_of_span, lin_plus, lin_minus, lin_times, lin_over, lin_widen, lin_shift, lin_clip, lin_symbol}
use Rattle.fixdec.specs.IntervalOperations.{operations}
use Rattle.fixdec.specs.declared.step.Step.{Step}
use Rattle.examples.specs.ComputedBoxes.{ThicknessBox, PlateBox, FlatIndex, CrownIndex, HeavyIndex, boxed, plate_setup, crown_glass, heavy_glass}
use Rattle.examples.specs.ComputedRows.{ones, tenths}
use Rattle.lensmodel.specs.Rows.Constants.{residual_units}
use Rattle.lensmodel.specs.Rows.Preparation.{medium_row}
use Rattle.examples.specs.Worked.{flat_glass, plane_setup, slanted_ray}
use Rattle.lensmodel.specs.declared.glass.Glass.{Glass}
use Rattle.lensmodel.specs.declared.glass.Medium.TheVariants.{Of}
use Rattle.lensmodel.specs.declared.tolerance.TolKind.TheVariants.{Thic, Indx}
use Rattle.examples.proofs.ComputedRows.{opened}
use Rattle.examples.proofs.TriedCells.{boxed_row_by_trying}
use Rattle.examples.proofs.TriedRoots.{operations_by, tried_root, same_operations}

-- what is opened to compute in linear arithmetic
unfoldable pub opened_forms : ℕ
unfolding opened lin_of_span lin_plus lin_minus lin_times lin_over lin_widen lin_shift lin_clip lin_symbol
opened_forms = 0

pub thickness_box : ThicknessBox
unfolding opened_forms
thickness_box = boxed_row_by_trying (boxed (record { kind = Thic; surface = 1; delta = tenths 1 }) (ones 2) plane_setup) slanted_ray _ refl refl

pub plate_box : PlateBox
unfolding opened_forms
plate_box = boxed_row_by_trying (boxed (record { kind = Indx; surface = 1; delta = record { mant = pos 1; exp = negsuc 1 } }) (ones 1) plate_setup) slanted_ray _ refl refl

-- so may an index at scale 12
index_by_trying : (g : Glass) (wave : Decimal) (x : Step Ends)
    → medium_row (operations_by tried_root 12) 12 (Of g) wave (residual_units 12 12) ≡ x → medium_row (operations 12) 12 (Of g) wave (residual_units 12 12) ≡ x
index_by_trying g wave x h = subst (λ o. medium_row (o 12) 12 (Of g) wave (residual_units 12 12) ≡ x) same_operations h

pub flat_index : FlatIndex
unfolding opened
flat_index = index_by_trying flat_glass (tenths 5) _ refl

pub crown_index : CrownIndex
unfolding opened
crown_index = index_by_trying crown_glass (record { mant = pos 5875618; exp = negsuc 6 }) _ refl

pub heavy_index : HeavyIndex
unfolding opened
heavy_index = index_by_trying heavy_glass (tenths 5) _ refl
