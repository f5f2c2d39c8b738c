-- The sums of rows: of one row more, and the statistics that follow from them.
use Rattle.std.proofs.Common.{◌≡◌, ℕ, suc, ◌+◌, Bool, true, false, List, [], ◌∷◌, ◌++◌, length, refl, sym, ap, add-zero, ◌∙◌, arith}
use Rattle.std.proofs.lemmas.Int.{ints}
use Rattle.std.proofs.lemmas.List.{append-nil, length-append, map-append}
use Rattle.std.proofs.lemmas.List.Elements.{filter-append}
use Rattle.std.specs.Prelude.{pos, ◌+ℤ◌, map, filter, if◌then◌else◌}
use Rattle.fixdec.specs.Ends.{Ends}
use Rattle.fixdec.specs.Interval.{iv_minus, iv_clip}
use Rattle.fixdec.specs.Steps.{◌>>=◌}
use Rattle.fixdec.specs.declared.step.Step.{Step}
use Rattle.fixdec.specs.declared.step.Step.TheVariants.{Val, Empty, Lost}
use Rattle.lensmodel.specs.Rows.Spans.{positive}
use Rattle.lensmodel.specs.Rows.Spot.{Landing, landing, landings, passes, of_each, mean_row, x_row, y_row, square_distance, square_distance_row, centroid_rows, spread_rows}
use Rattle.lensmodel.specs.declared.row.Row.{Row}
use Rattle.spotfan.specs.Sums.{total, total_of, sum_of_two, sum_with, mean_of, Sums, sums_of, counted, with_heights, with_row, centre_of, spread_of}

-- ---- one landing more
first_of_total : (r : Step Ends) (s : Step (List Ends))
    → (r >>= λ first. s >>= λ rest. Val (first ∷ rest)) >>= (λ each. Val (total each)) ≡ r >>= λ a. (s >>= λ each. Val (total each)) >>= λ t. Val (sum_of_two a t)
first_of_total (Val a) (Val each) = refl
first_of_total (Val a) Empty = refl
first_of_total (Val a) (Lost why) = refl
first_of_total Empty s = refl
first_of_total (Lost why) s = refl

sum_of_none : (a : Ends) → sum_of_two a (total []) ≡ sum_of_two (total []) a
sum_of_none a =
    let lo : a.lo +ℤ pos 0 ≡ pos 0 +ℤ a.lo = omega (arith, ints) in
    let hi : a.hi +ℤ pos 0 ≡ pos 0 +ℤ a.hi = omega (arith, ints) in
    λ i. record { lo = lo i; hi = hi i }

sum_of_three : (a t b : Ends) → sum_of_two a (sum_of_two t b) ≡ sum_of_two (sum_of_two a t) b
sum_of_three a t b =
    let lo : a.lo +ℤ (t.lo +ℤ b.lo) ≡ (a.lo +ℤ t.lo) +ℤ b.lo = omega (arith, ints) in
    let hi : a.hi +ℤ (t.hi +ℤ b.hi) ≡ (a.hi +ℤ t.hi) +ℤ b.hi = omega (arith, ints) in
    λ i. record { lo = lo i; hi = hi i }

total-one : (r : Step Ends) → (r >>= λ a. Val (total []) >>= λ t. Val (sum_of_two a t)) ≡ sum_with (Val (total [])) r
total-one (Val a) = ap (λ s. Val s) (sum_of_none a)
total-one Empty = refl
total-one (Lost why) = refl

total-more : (r t s : Step Ends) → (r >>= λ a. sum_with t s >>= λ u. Val (sum_of_two a u)) ≡ sum_with (r >>= λ a. t >>= λ u. Val (sum_of_two a u)) s
total-more (Val a) (Val t) (Val b) = ap (λ s. Val s) (sum_of_three a t b)
total-more (Val a) (Val t) Empty = refl
total-more (Val a) (Val t) (Lost why) = refl
total-more (Val a) Empty s = refl
total-more (Val a) (Lost why) s = refl
total-more Empty t s = refl
total-more (Lost why) t s = refl

total_of-append : (f : Landing → Step Ends) (all : List Landing) (a : Landing) → total_of f (all ++ a ∷ []) ≡ sum_with (total_of f all) (f a)
total_of-append f [] a = first_of_total (f a) (Val []) ∙ total-one (f a)
total_of-append f (b ∷ all) a =
    first_of_total (f b) (of_each f (all ++ a ∷ []))
    ∙ ap (λ t. f b >>= λ c. t >>= λ u. Val (sum_of_two c u)) (total_of-append f all a)
    ∙ total-more (f b) (total_of f all) (f a)
    ∙ sym (ap (λ t. sum_with t (f a)) (first_of_total (f b) (of_each f all)))

-- ---- one row more
landings-append : (rows : List Row) (row : Row) → landings (rows ++ row ∷ []) ≡ landings rows ++ landings (row ∷ [])
landings-append rows row =
    ap (map landing) (filter-append passes rows (row ∷ [])) ∙ map-append landing (filter passes rows) (filter passes (row ∷ []))

-- the sums of some landings, so many rows being there
abbrev gathered : ℕ → List Landing → Sums
gathered n all = record { rows = n; passes = length all; x = total_of x_row all; y = total_of y_row all; squares = total_of square_distance_row all }

gathered-append : (n : ℕ) (all : List Landing) (a : Landing) → gathered (n + 1) (all ++ a ∷ []) ≡ with_heights (counted (gathered n all)) (x_row a) (y_row a)
gathered-append n all a =
    let count : length (all ++ a ∷ []) ≡ length all + 1 = length-append all (a ∷ []) in
    let x = total_of-append x_row all a in
    let y = total_of-append y_row all a in
    let squares = total_of-append square_distance_row all a in
    λ i. record { rows = n + 1; passes = count i; x = x i; y = y i; squares = squares i }

pub sums_of-append : (rows : List Row) (row : Row) → sums_of (rows ++ row ∷ []) ≡ with_row (sums_of rows) row
sums_of-append rows row = by (passes row) refl
  where
    more : length (rows ++ row ∷ []) ≡ length rows + 1
    more = length-append rows (row ∷ [])

    by : (b : Bool) → passes row ≡ b
        → sums_of (rows ++ row ∷ []) ≡ (if b then with_heights (counted (sums_of rows)) (x_row (landing row)) (y_row (landing row)) else counted (sums_of rows))
    by true e =
        let one : landings (row ∷ []) ≡ landing row ∷ [] = rw e refl in
        rw (more, landings-append rows row, one) (gathered-append (length rows) (landings rows) (landing row))
    by false e =
        let none : landings (row ∷ []) ≡ [] = rw e refl in
        let all : landings (rows ++ row ∷ []) ≡ landings rows = landings-append rows row ∙ ap (λ more. landings rows ++ more) none ∙ append-nil (landings rows) in
        λ i. gathered (more i) (all i)

pub rows-with_row : (s : Sums) (row : Row) → (with_row s row).rows ≡ s.rows + 1
rows-with_row s row = by (passes row)
  where
    by : (b : Bool) → (if b then with_heights (counted s) (x_row (landing row)) (y_row (landing row)) else counted s).rows ≡ s.rows + 1
    by true = refl
    by false = refl

pub passes-with_row : (s : Sums) (row : Row) → (with_row s row).passes ≡ s.passes + (if passes row then 1 else 0)
passes-with_row s row = by (passes row)
  where
    by : (b : Bool) → (if b then with_heights (counted s) (x_row (landing row)) (y_row (landing row)) else counted s).passes ≡ s.passes + (if b then 1 else 0)
    by true = refl
    by false = sym (add-zero s.passes)

-- ---- the statistics
length_of_rest : (r : Step Ends) (s : Step (List Ends)) (n : ℕ) → ((rest : List Ends) → s ≡ Val rest → length rest ≡ n)
    → (each : List Ends) → (r >>= λ first. s >>= λ rest. Val (first ∷ rest)) ≡ Val each → length each ≡ suc n
length_of_rest (Val a) (Val rest) n h each e = let same : a ∷ rest ≡ each = cc in rw (← same) (ap suc (h rest refl))
length_of_rest (Val a) Empty n h each e = cc
length_of_rest (Val a) (Lost why) n h each e = cc
length_of_rest Empty s n h each e = cc
length_of_rest (Lost why) s n h each e = cc

of_each-length : (f : Landing → Step Ends) (all : List Landing) (each : List Ends) → of_each f all ≡ Val each → length each ≡ length all
of_each-length f [] each e = let same : [] ≡ each = cc in rw (← same) refl
of_each-length f (a ∷ all) each e = length_of_rest (f a) (of_each f all) (length all) (of_each-length f all) each e

-- the mean is that of the sums, whatever follows
mean-then : {B : Type 0} (f : Landing → Step Ends) (all : List Landing) (g : Ends → Step B)
    → (of_each f all >>= λ each. mean_row each >>= g) ≡ (total_of f all >>= λ t. mean_of (length all) t >>= g)
mean-then f all g = by (of_each f all) refl
  where
    by : (s : Step (List Ends)) → of_each f all ≡ s
        → (s >>= λ each. mean_row each >>= g) ≡ ((s >>= λ each. Val (total each)) >>= λ t. mean_of (length all) t >>= g)
    by (Val each) e = rw (of_each-length f all each e) refl
    by Empty e = refl
    by (Lost why) e = refl

pub centroid-is : (n : ℕ) (all : List Landing) → centroid_rows all ≡ centre_of (gathered n all)
unfolding centroid_rows
centroid-is n all =
    mean-then x_row all (λ x. of_each y_row all >>= λ each. mean_row each >>= λ y. Val (x, y))
    ∙ (λ i. total_of x_row all >>= λ t. mean_of (length all) t >>= λ x. mean-then y_row all (λ y. Val (x, y)) i)

pub spread-is : (n : ℕ) (all : List Landing) → spread_rows all ≡ spread_of (gathered n all)
unfolding spread_rows
spread-is n all =
    (λ i. centroid-is n all i >>= λ c. of_each square_distance_row all >>= λ each. mean_row each >>= λ mean. square_distance c.0 c.1 >>= λ d. iv_minus mean d >>= λ v. iv_clip v positive)
    ∙ (λ i. centre_of (gathered n all) >>= λ c. mean-then square_distance_row all (λ mean. square_distance c.0 c.1 >>= λ d. iv_minus mean d >>= λ v. iv_clip v positive) i)
