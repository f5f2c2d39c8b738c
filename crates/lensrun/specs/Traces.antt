-- What is kept while the rays of a job are traced. Cited by the writing of a trace.
use Rattle.std.specs.Prelude.{◌≡◌, ◌++◌, List, All}
use Rattle.ladder.specs.Benches.{IsFilledFor}
use Rattle.ladder.specs.Kinds.{Kinds}
use Rattle.lensmodel.specs.Claims.RowClaims.{RowHolds}
use Rattle.lensmodel.specs.Rows.Ray.{row}
use Rattle.lensmodel.specs.Setup.WellFormed.{IsWellFormed}
use Rattle.lensmodel.specs.declared.launch.Launch.{Launch}
use Rattle.lensmodel.specs.declared.row.Row.{Row}
use Rattle.lensmodel.specs.declared.setup.Setup.{Setup}
use Rattle.lensreport.specs.Totals.{Counts, counts_of}

-- a well-formed setup over whose surfaces rows can be read off a bench
pub record IsPreparedFor (s : Setup) (bench : Kinds) : Type 0 where
  pub well : IsWellFormed s
  pub filled : IsFilledFor s bench

-- the rows of some rays hold
abbrev pub AllHold : Setup → List Launch → Type 0
AllHold s rays = All (λ ray. RowHolds s ray (row s ray)) rays

-- some rows were counted after those that were counted before
abbrev pub CountsMore : Counts → Counts → List Row → Type 0
CountsMore old new rows = (counted : List Row) → old ≡ counts_of counted → new ≡ counts_of (counted ++ rows)
