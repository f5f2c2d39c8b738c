-- Statistics of small spots.
use Rattle.std.specs.Prelude.{◌≡◌, ℕ, pos, negsuc, List, [], ◌∷◌, None}
use Rattle.fixdec.specs.Ends.{Ends}
use Rattle.fixdec.specs.declared.step.Step.{Step}
use Rattle.fixdec.specs.declared.step.Step.TheVariants.{Val, Lost}
use Rattle.fixdec.specs.declared.step.Why.TheVariants.{Range}
use Rattle.examples.specs.SmallLenses.{interval}
use Rattle.lensmodel.specs.Rows.Spot.{Landing, centroid_rows, spread_rows, centroid, mean_square}
use Rattle.lensmodel.specs.declared.row.Row.{Row}
use Rattle.lensmodel.specs.declared.row.Word.{Word}
use Rattle.lensmodel.specs.declared.row.Word.TheVariants.{Passes, Wide}

-- a grid of three by three rays, three units apart, at scale 6
abbrev pub left : Ends
left = interval (negsuc 3000013) (negsuc 2999985)

abbrev pub middle : Ends
middle = interval (negsuc 13) (pos 14)

abbrev pub right : Ends
right = interval (pos 2999986) (pos 3000014)

abbrev pub at : Ends → Ends → Landing
at x y = record { scale = 6; x = x; y = y }

abbrev pub grid : List Landing
grid =
    at left left ∷ at left middle ∷ at left right ∷ at middle left ∷ at middle middle ∷ at middle right ∷ at right left
    ∷ at right middle ∷ at right right ∷ []

-- a row of one place
abbrev pub placed : ℕ → Word → Ends → Ends → Row
placed scale word x y =
    let zero = interval (pos 0) (pos 0) in
    record { scale = scale; word = word; places = record { items = record { rho = zero; x = x; y = y; z = zero; path = zero; heading = None } ∷ [] } }

-- three scales, and a row that doesn't pass and isn't counted
abbrev pub mixed : List Row
mixed =
    placed 15 Passes (interval (pos 1) (pos 1001)) (interval (negsuc 1000) (negsuc 0))
    ∷ placed 6 Passes (interval (pos 2) (pos 3)) (interval (negsuc 2) (negsuc 1))
    ∷ placed 6 Wide (interval (pos 9) (pos 9)) (interval (pos 9) (pos 9))
    ∷ placed 12 Passes (interval (negsuc 6) (negsuc 4)) (interval (pos 4) (pos 4)) ∷ []

-- a row at the height 1001
abbrev pub far : List Row
far = placed 6 Passes (interval (pos 0) (pos 0)) (interval (pos 1001000000) (pos 1001000000)) ∷ []

-- the centroid and the mean square distance
pub record Gives (centre : Step (Ends × Ends)) (spread : Step Ends) (x y : Ends) (mean : Step Ends) : Type 0 where
  pub centroid : centre ≡ Val (x, y)
  pub mean_square : spread ≡ mean

-- the grid's centroid holds 0, and its mean square distance holds 12
abbrev pub GridStatistics : Type 0
GridStatistics =
    Gives (centroid_rows grid) (spread_rows grid) (interval (negsuc 13999999) (pos 14000000)) (interval (negsuc 13999999) (pos 14000000))
    (Val (interval (pos 11999887999869) (pos 12000112000392)))

abbrev pub MixedStatistics : Type 0
MixedStatistics =
    Gives (centroid mixed) (mean_square mixed) (interval (pos 666664) (pos 999999)) (interval (negsuc 999999) (negsuc 666664))
    (Val (interval (pos 0) (pos 8)))

-- the row at 1001 has a centroid, and a square that passes the cap
abbrev pub FarStatistics : Type 0
FarStatistics =
    Gives (centroid far) (mean_square far) (interval (pos 0) (pos 0)) (interval (pos 1001000000000000) (pos 1001000000000000)) (Lost Range)
