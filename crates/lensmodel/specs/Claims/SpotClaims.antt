-- What the statistics of a spot claim: whichever whole chain is chosen for each row that passes.
-- Cited by the statistics of a grid and by the command trace.
use Rattle.std.specs.Prelude.{◌≡◌, ◌-◌, pos, List, [], ◌∷◌, length, map, filter, IsTrue}
use Rattle.std.specs.List.{AllZip}
use Rattle.fixdec.specs.Ends.{Ends}
use Rattle.fixdec.specs.Frac.{Frac, ◌+Q◌, ◌-Q◌, ◌*Q◌, whole}
use Rattle.fixdec.specs.Member.{IsMember}
use Rattle.fixdec.specs.Steps.{OnVal}
use Rattle.fixdec.specs.declared.step.Step.{Step}
use Rattle.lensmodel.specs.Equations.Chain.{Chain}
use Rattle.lensmodel.specs.Equations.Chains.{IsWhole}
use Rattle.lensmodel.specs.Claims.RowClaims.{RowHolds}
use Rattle.lensmodel.specs.Rows.Spot.{Landing, passes, centroid, mean_square}
use Rattle.lensmodel.specs.Setup.Values.{image}
use Rattle.lensmodel.specs.declared.launch.Launch.{Launch}
use Rattle.lensmodel.specs.declared.row.Row.{Row}
use Rattle.lensmodel.specs.declared.setup.Setup.{Setup}

-- a point of the image
pub record Point : Type 0 where
  pub x : Frac
  pub y : Frac

abbrev pub sum : List Frac → Frac
sum [] = whole (pos 0)
sum (v ∷ more) = v +Q sum more

-- the mean of some fractions, of which there is at least one
abbrev pub mean : List Frac → Frac
mean vs = sum vs *Q record { num = pos 1; less = length vs - 1 }

abbrev pub mean_x : List Point → Frac
mean_x points = mean (map (λ a. a.x) points)

abbrev pub mean_y : List Point → Frac
mean_y points = mean (map (λ a. a.y) points)

-- the square of the distance of two points
abbrev pub square_between : Point → Point → Frac
square_between a b = (a.x -Q b.x) *Q (a.x -Q b.x) +Q (a.y -Q b.y) *Q (a.y -Q b.y)

-- the mean square distance of some points from their mean
abbrev pub mean_square_from : Point → List Point → Frac
mean_square_from centre points = mean (map (λ a. square_between a centre) points)

abbrev pub spread : List Point → Frac
spread points = mean_square_from (record { x = mean_x points; y = mean_y points }) points

-- a point lies in a landing
pub record IsIn (a : Landing) (p : Point) : Type 0 where
  pub x : IsMember a.scale a.x p.x
  pub y : IsMember a.scale a.y p.y

-- a point of each landing, at least one
pub record IsChoice (all : List Landing) (points : List Point) : Type 0 where
  pub each : AllZip IsIn all points
  pub some : points ≡ [] → ⊥

-- the centroid and the mean square distance of each choice lie in the intervals, which are there unless they are lost
abbrev pub HoldsCentroid : List Landing → Step (Ends × Ends) → Type 0
HoldsCentroid all answer = (points : List Point) → IsChoice all points
    → OnVal answer (λ c. IsMember 12 c.0 (mean_x points) × IsMember 12 c.1 (mean_y points))

abbrev pub HoldsSpread : List Landing → Step Ends → Type 0
HoldsSpread all answer = (points : List Point) → IsChoice all points → OnVal answer (λ r. IsMember 12 r (spread points))

-- a ray with its row
pub record Traced : Type 0 where
  pub ray : Launch
  pub row : Row

-- the row holds, and where it says that its ray passes, its last place is that of the image
pub record IsTraced (s : Setup) (t : Traced) : Type 0 where
  pub holds : RowHolds s t.ray t.row
  pub reaches : IsTrue (passes t.row) → length t.row.places.items ≡ image s

-- where a chain meets the image
abbrev pub image_point : Setup → Chain → Point
image_point s c = record { x = c.x (image s); y = c.y (image s) }

-- one whole chain for each row that passes
abbrev pub AreChosen : Setup → List Traced → List Chain → Type 0
AreChosen s rays chains = AllZip (λ t c. IsWhole s t.ray c) (filter (λ t. passes t.row) rays) chains

-- what is claimed of a spot: whichever chains are chosen, the mean of their points lies in the centroid, and their mean square
-- distance from that mean in the spread
abbrev pub SpotHolds : Setup → List Traced → Type 0
SpotHolds s rays = (chains : List Chain) → AreChosen s rays chains → (chains ≡ [] → ⊥)
    → let points = map (image_point s) chains in
    OnVal (centroid (map (λ t. t.row) rays)) (λ c. IsMember 12 c.0 (mean_x points) × IsMember 12 c.1 (mean_y points))
    × OnVal (mean_square (map (λ t. t.row) rays)) (λ r. IsMember 12 r (spread points))
