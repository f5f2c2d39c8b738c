-- What is kept of the rows of a grid: sums, from which the statistics follow. Cited by the tally.
use Rattle.std.specs.Prelude.{◌≡◌, ℕ, ◌+◌, ◌*◌, pos, ◌+ℤ◌, ◌≤ℤ◌, neg_ℤ, List, length, if◌then◌else◌}
use Rattle.fixdec.specs.Ends.{Ends}
use Rattle.fixdec.specs.Interval.{ends, iv_minus, iv_clip}
use Rattle.fixdec.specs.Rounding.{floor, ceil}
use Rattle.fixdec.specs.Steps.{◌>>=◌}
use Rattle.fixdec.specs.declared.step.Step.{Step}
use Rattle.fixdec.specs.declared.step.Step.TheVariants.{Val}
use Rattle.lensmodel.specs.Rows.Spans.{positive}
use Rattle.lensmodel.specs.Rows.Spot.{Landing, landing, landings, passes, of_each, sum_lo, sum_hi, x_row, y_row, square_distance, square_distance_row}
use Rattle.lensmodel.specs.declared.row.Row.{Row}

-- the sums of the least and of the greatest numbers of some intervals
abbrev pub total : List Ends → Ends
total all = record { lo = sum_lo all; hi = sum_hi all }

-- the same of what each landing gives, unless one is lost
abbrev pub total_of : (Landing → Step Ends) → List Landing → Step Ends
total_of f all = do
  each ← of_each f all
  Val (total each)

-- two intervals' sums, end by end
abbrev pub sum_of_two : Ends → Ends → Ends
sum_of_two a b = record { lo = a.lo +ℤ b.lo; hi = a.hi +ℤ b.hi }

abbrev pub sum_with : Step Ends → Step Ends → Step Ends
sum_with so_far next = do
  s ← so_far
  a ← next
  Val (sum_of_two s a)

-- the mean of so many intervals by their sums
abbrev pub mean_of : ℕ → Ends → Step Ends
mean_of count sums = ends (floor sums.lo (pos count)) (ceil sums.hi (pos count))

-- how many rows there are, how many of them pass, and the sums of x, of y and of sq(x) + sq(y) over those that pass
pub record Sums : Type 0 where
  pub rows : ℕ
  pub passes : ℕ
  pub x : Step Ends
  pub y : Step Ends
  pub squares : Step Ends

abbrev pub sums_of : List Row → Sums
sums_of rows = record {
  rows = length rows;
  passes = length (landings rows);
  x = total_of x_row (landings rows);
  y = total_of y_row (landings rows);
  squares = total_of square_distance_row (landings rows);
}

-- ---- one row more
abbrev pub counted : Sums → Sums
counted s = record s { rows = s.rows + 1 }

-- the sum of the squares of two heights that are there
abbrev pub square_if : Step Ends → Step Ends → Step Ends
square_if x y = do
  square_distance (← x) (← y)

abbrev pub with_heights : Sums → Step Ends → Step Ends → Sums
with_heights s x y = record {
  rows = s.rows;
  passes = s.passes + 1;
  x = sum_with s.x x;
  y = sum_with s.y y;
  squares = sum_with s.squares (square_if x y);
}

abbrev pub with_row : Sums → Row → Sums
with_row s row = if passes row then with_heights (counted s) (x_row (landing row)) (y_row (landing row)) else counted s

-- ---- the statistics
abbrev pub centre_of : Sums → Step (Ends × Ends)
centre_of s = do
  x ← mean_of s.passes (← s.x)
  y ← mean_of s.passes (← s.y)
  Val (x, y)

abbrev pub spread_of : Sums → Step Ends
spread_of s = do
  c ← centre_of s
  mean ← mean_of s.passes (← s.squares)
  iv_clip (← iv_minus mean (← square_distance c.0 c.1)) positive

-- ---- how great sums are
-- sums of so many intervals, each within the cap
pub record IsSum (count : ℕ) (s : Ends) : Type 0 where
  pub order : s.lo ≤ℤ s.hi
  pub low : neg_ℤ (pos (count * 1_000_000_000_000_000_000)) ≤ℤ s.lo
  pub high : s.hi ≤ℤ pos (count * 1_000_000_000_000_000_000)

-- the same where they are there
abbrev pub IsSumIf : ℕ → Step Ends → Type 0
IsSumIf count sums = (s : Ends) → sums ≡ Val s → IsSum count s
