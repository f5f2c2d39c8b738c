-- What is said of the rays of a grid, by their rows, and its line. Cited by the line of a spot.
use Rattle.std.specs.Prelude.{ℕ, zero, suc, List, [], ◌++◌, codes, length, filter, Option, Some, None}
use Rattle.fixdec.specs.Ends.{Ends}
use Rattle.lensmodel.specs.Rows.Spot.{passes, centroid, mean_square}
use Rattle.lensmodel.specs.Texts.Pieces.{newline, named_span, spaced_number}
use Rattle.lensmodel.specs.Texts.Rows as rows
use Rattle.lensmodel.specs.declared.row.Row.{Row}
use Rattle.lensreport.specs.declared.spot.Spot.{Spot}
use Rattle.lensreport.specs.declared.spot.Statistics.{Statistics}

-- there are none where no ray passes
abbrev pub statistics_if : ℕ → List Row → Option Statistics
statistics_if zero grid = None
statistics_if (suc n) grid = Some (record { centroid = centroid grid; mean_square = mean_square grid })

abbrev pub spot_of : List Row → Spot
spot_of grid = record {
  rays = length grid;
  passes = length (filter passes grid);
  statistics = statistics_if (length (filter passes grid)) grid;
}

-- centroid x [..] y [..]
unfoldable pub centroid_text : Ends → Ends → List ℕ
centroid_text x y = codes " centroid" ++ named_span (codes "x") 12 x ++ named_span (codes "y") 12 y

abbrev pub statistics_text : Option Statistics → List ℕ
statistics_text None = []
statistics_text (Some s) = rows.statistics_text s.centroid s.mean_square

abbrev pub spot_text : Spot → List ℕ
spot_text s =
    codes "spot rays" ++ spaced_number s.rays ++ codes " passes" ++ spaced_number s.passes ++ statistics_text s.statistics ++ newline
