-- Where a step of a meeting with an even asphere turns: intervals that have one number in common, a bound that is 0, and the cells
-- of a window.
use Rattle.std.specs.Prelude.{◌≡◌, pos, negsuc, true, false, List, [], ◌∷◌, length, map}
use Rattle.fixdec.specs.IntervalOperations.{operations}
use Rattle.fixdec.specs.declared.step.Step.TheVariants.{Val, Empty, Lost}
use Rattle.fixdec.specs.declared.step.Why.TheVariants.{Root, Range}
use Rattle.examples.specs.WorkedRow.{span}
use Rattle.lensmodel.specs.Rows.Cells.{cell, cells, is_kept, kept_hull}
use Rattle.lensmodel.specs.Rows.SlopeRounds.{if_not_below_zero, if_above_zero}
use Rattle.lensmodel.specs.Rows.Spans.{common, middle}

-- one number in common is enough, to narrow a window and to keep a cell
pub record Touching : Type 0 where
  pub above : common (span (pos 1) (pos 2)) (span (pos 2) (pos 3)) ≡ Val (span (pos 2) (pos 2))
  pub below : common (span (pos 2) (pos 3)) (span (pos 1) (pos 2)) ≡ Val (span (pos 2) (pos 2))
  pub apart : common (span (pos 1) (pos 2)) (span (pos 3) (pos 4)) ≡ Empty
  pub kept_above : is_kept (span (pos 1) (pos 2)) (Val (span (pos 2) (pos 3))) ≡ true
  pub kept_below : is_kept (span (pos 2) (pos 3)) (Val (span (pos 1) (pos 2))) ≡ true
  pub dropped : is_kept (span (pos 1) (pos 2)) (Val (span (pos 3) (pos 4))) ≡ false

-- the radicand at the middle may be 0, and the slope may not
pub record AtZero : Type 0 where
  pub radicand : if_not_below_zero (operations 6) (span (pos 0) (pos 5)) ≡ Val (span (pos 0) (pos 5))
  pub below : if_not_below_zero (operations 6) (span (negsuc 0) (pos 5)) ≡ Lost Root
  pub slope : if_above_zero (operations 6) (span (pos 0) (pos 5)) ≡ Lost Root
  pub above : if_above_zero (operations 6) (span (pos 1) (pos 5)) ≡ Val (span (pos 1) (pos 5))

-- 64 cells, the last of which ends with the window; the middle is rounded down
pub record OfWindow : Type 0 where
  pub count : length (cells (span (negsuc 99) (pos 100))) ≡ 64
  pub first : cell (span (negsuc 99) (pos 100)) 0 ≡ span (negsuc 99) (negsuc 96)
  pub last : cell (span (negsuc 99) (pos 100)) 63 ≡ span (pos 96) (pos 100)
  pub middle : middle (span (negsuc 3) (pos 1)) ≡ negsuc 1
