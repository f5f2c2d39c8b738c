-- The statistics of a spot: over the rows that pass, the centroid at the image and the mean square distance from it.
-- Cited by the statistics of a grid and by the command trace.
use Rattle.std.specs.Prelude.{ℕ, ◌-◌, ◌^◌, ℤ, pos, ◌+ℤ◌, ◌*ℤ◌, Bool, true, false, nat_le, List, [], ◌∷◌, length, map, filter, if◌then◌else◌}
use Rattle.fixdec.specs.Ends.{Ends}
use Rattle.fixdec.specs.Interval.{ends, iv_plus, iv_minus, iv_square, iv_clip}
use Rattle.fixdec.specs.Rounding.{floor, ceil}
use Rattle.fixdec.specs.Steps.{◌>>=◌}
use Rattle.fixdec.specs.declared.step.Step.{Step}
use Rattle.fixdec.specs.declared.step.Step.TheVariants.{Val}
use Rattle.lensmodel.specs.Rows.Spans.{positive}
use Rattle.lensmodel.specs.declared.row.Place.{Place}
use Rattle.lensmodel.specs.declared.row.Row.{Row}
use Rattle.lensmodel.specs.declared.row.Word.{Word}
use Rattle.lensmodel.specs.declared.row.Word.TheVariants.{Passes}

-- whether a row says that its ray passes
abbrev pub is_pass : Word → Bool
is_pass Passes = true
is_pass word = false

abbrev pub passes : Row → Bool
passes row = is_pass row.word

-- where a ray meets the image, in units of its row's scale
pub record Landing : Type 0 where
  pub scale : ℕ
  pub x : Ends
  pub y : Ends

-- a row without places lands at 0; one that passes has at least the place of the image
abbrev pub no_place : Ends
no_place = record { lo = pos 0; hi = pos 0 }

abbrev pub last_place : ℕ → List Place → Landing
last_place scale [] = record { scale = scale; x = no_place; y = no_place }
last_place scale (p ∷ []) = record { scale = scale; x = p.x; y = p.y }
last_place scale (p ∷ q ∷ more) = last_place scale (q ∷ more)

abbrev pub landing : Row → Landing
landing row = last_place row.scale row.places.items

-- the landings of the rows that pass, in order
abbrev pub landings : List Row → List Landing
landings rows = map landing (filter passes rows)

-- an interval brought to scale 12: exactly from a smaller scale, and rounded outward from a greater one
abbrev pub at_12 : ℕ → Ends → Step Ends
at_12 scale a =
    if nat_le scale 12
    then ends (a.lo *ℤ pos (10 ^ (12 - scale))) (a.hi *ℤ pos (10 ^ (12 - scale)))
    else ends (floor a.lo (pos (10 ^ (scale - 12)))) (ceil a.hi (pos (10 ^ (scale - 12))))

-- what each landing gives, or the first that is lost
abbrev pub of_each : (Landing → Step Ends) → List Landing → Step (List Ends)
of_each f [] = Val []
of_each f (a ∷ more) = do
  first ← f a
  rest ← of_each f more
  Val (first ∷ rest)

-- the sums of the least and of the greatest numbers, which have no cap
abbrev pub sum_lo : List Ends → ℤ
sum_lo [] = pos 0
sum_lo (a ∷ more) = a.lo +ℤ sum_lo more

abbrev pub sum_hi : List Ends → ℤ
sum_hi [] = pos 0
sum_hi (a ∷ more) = a.hi +ℤ sum_hi more

-- the mean of some intervals: the least numbers' rounded down, the greatest numbers' rounded up
abbrev pub mean_row : List Ends → Step Ends
mean_row all = ends (floor (sum_lo all) (pos (length all))) (ceil (sum_hi all) (pos (length all)))

abbrev pub x_row : Landing → Step Ends
x_row a = at_12 a.scale a.x

abbrev pub y_row : Landing → Step Ends
y_row a = at_12 a.scale a.y

-- sq(x) + sq(y)
abbrev pub square_distance : Ends → Ends → Step Ends
square_distance x y = do
  iv_plus (← iv_square 12 x) (← iv_square 12 y)

abbrev pub square_distance_row : Landing → Step Ends
square_distance_row a = do
  square_distance (← x_row a) (← y_row a)

-- the centroid: the mean of x and the mean of y
unfoldable pub centroid_rows : List Landing → Step (Ends × Ends)
centroid_rows all = do
  x ← mean_row (← of_each x_row all)
  y ← mean_row (← of_each y_row all)
  Val (x, y)

-- the mean square distance from the centroid: the mean of sq(x) + sq(y), less sq(x) + sq(y) of the centroid, from 0 on
unfoldable pub spread_rows : List Landing → Step Ends
spread_rows all = do
  c ← centroid_rows all
  mean ← mean_row (← of_each square_distance_row all)
  iv_clip (← iv_minus mean (← square_distance c.0 c.1)) positive

-- the statistics of some rows
abbrev pub centroid : List Row → Step (Ends × Ends)
centroid rows = centroid_rows (landings rows)

abbrev pub mean_square : List Row → Step Ends
mean_square rows = spread_rows (landings rows)
