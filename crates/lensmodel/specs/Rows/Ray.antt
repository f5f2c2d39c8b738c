-- The row of a ray: the four scales in intervals without a box, and in linear forms with one, even an empty one.
-- Cited by the row of a ray and by the commands that trace.
use Rattle.std.specs.Prelude.{ℕ, Option, Some, None}
use Rattle.fixdec.specs.Form.{linear_operations}
use Rattle.fixdec.specs.IntervalOperations.{operations}
use Rattle.fixdec.specs.Operations.{Operations}
use Rattle.lensmodel.specs.Rows.Outcome.{Outcome, outcome_at, row_of}
use Rattle.lensmodel.specs.declared.launch.Launch.{Launch}
use Rattle.lensmodel.specs.declared.row.Row.{Row}
use Rattle.lensmodel.specs.declared.setup.Setup.{Setup}
use Rattle.lensmodel.specs.declared.tolerance.TolBox.{TolBox}

-- an outcome as a row
abbrev pub as_row : Outcome → Row
as_row a = record { scale = a.scale; word = a.word; places = record { items = a.places } }

-- the row by an arithmetic, which has its operations at each scale
abbrev pub row_by : {A : Type 0} → (ℕ → Operations A) → Setup → Launch → Row
row_by o s ray =
    as_row (row_of (outcome_at (o 6) 6 s ray) (outcome_at (o 9) 9 s ray) (outcome_at (o 12) 12 s ray) (outcome_at (o 15) 15 s ray))

abbrev pub row_with : Option TolBox → Setup → Launch → Row
row_with None s ray = row_by operations s ray
row_with (Some box) s ray = row_by linear_operations s ray

-- the row of a ray
unfoldable pub row : Setup → Launch → Row
row s ray = row_with s.toler s ray
