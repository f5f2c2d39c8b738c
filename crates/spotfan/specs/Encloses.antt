-- The statistics of landings hold those of their points: the mean of members lies in the mean of their intervals, and the mean
-- square distance from the mean is the mean of the squares less the square of the mean.
use Rattle.std.proofs.Common.{◌≡◌, ℕ, zero, suc, ◌+◌, ◌-◌, ◌^◌, ◌≤◌, Bool, true, false, List, [], ◌∷◌, length, refl, sym, ap, subst, arith}
use Rattle.std.proofs.lemmas.Bool.Decides.{nat_tests}
use Rattle.std.proofs.lemmas.Int.{ints}
use Rattle.std.proofs.lemmas.List.{length-map}
use Rattle.std.specs.List.{AllZip}
use Rattle.std.specs.Prelude.{ℤ, pos, ◌+ℤ◌, ◌*ℤ◌, ◌-ℤ◌, ◌≤ℤ◌, map, nat_le, ◌&&◌, if◌then◌else◌}
use Rattle.enclose.specs.IntervalLaws.{iv_plus-encloses, iv_square-encloses, iv_clip-encloses}
use Rattle.fixdec.specs.Ends.{Ends}
use Rattle.fixdec.specs.Frac.{Frac, ◌≈◌, ◌≤Q◌, ◌+Q◌, ◌-Q◌, ◌*Q◌, whole}
use Rattle.fixdec.specs.Interval.{ends, fits_cap, iv_minus, iv_square}
use Rattle.fixdec.specs.Member.{IsMember, units}
use Rattle.fixdec.specs.Rounding.{floor, ceil}
use Rattle.fixdec.specs.Steps.{OnVal, OnVal-then, ◌>>=◌}
use Rattle.fixdec.specs.Algebra.FracLaws.{≈_refl, ≈_sym, ≈_trans}
use Rattle.fixdec.specs.Algebra.Linear.{linear, name, fact, no_fact, reads}
use Rattle.fixdec.specs.Algebra.MemberLaws.{same_law, plus_law, minus_law, divide_law, unit_pos, units_nn}
use Rattle.fixdec.specs.Algebra.Order.{le_of_same, le_trans, le_whole}
use Rattle.fixdec.specs.Algebra.OrderLaws.{add_nn, le_along, le_mul, le_same_left, le_same_right, mul_nn, square_nn, whole_add, whole_mul, whole_same, zero_le_whole}
use Rattle.fixdec.specs.Algebra.PowerLaws.{OnVal-ends, whole_power-add}
use Rattle.fixdec.specs.Algebra.RoundingLaws.{ceil_over, floor_under, ratio_is}
use Rattle.fixdec.specs.declared.step.Step.{Step}
use Rattle.fixdec.specs.declared.step.Step.TheVariants.{Val, Lost}
use Rattle.fixdec.specs.declared.step.Why.TheVariants.{Range}
use Rattle.lensmodel.specs.Claims.SpotClaims.{Point, sum, mean, mean_x, mean_y, square_between, spread, IsIn, IsChoice, HoldsCentroid, HoldsSpread}
use Rattle.lensmodel.specs.Rows.Spans.{positive}
use Rattle.lensmodel.specs.Rows.Spot.{Landing, at_12, of_each, sum_lo, sum_hi, mean_row, x_row, y_row, square_distance, square_distance_row, centroid_rows, spread_rows}
use Rattle.spotfan.specs.Sums.{total}

-- ---- intervals at scale 12
-- ten to the power k, and the same of a sum of exponents
abbrev power : ℕ → Frac
power k = whole (pos (10 ^ k))

power_sum : (a b c : ℕ) → a + b ≡ c → power c ≈ power a *Q power b
power_sum a b c e = subst (λ n. power n ≈ power a *Q power b) e (whole_power-add a b)

power_nn : (k : ℕ) → whole (pos 0) ≤Q power k
power_nn k = zero_le_whole (10 ^ k)

finer : (u p q r : Frac) → r ≈ p *Q q → (u *Q p) *Q q ≈ u *Q r
finer u p q r e = linear (r ∷ u ∷ p ∷ q ∷ []) _ _ (search reads depth 20) (name e (search reads depth 20) no_fact) tt

-- exactly from a smaller scale
raised : (scale k : ℕ) (a : Ends) (u : Frac) → scale + k ≡ 12 → IsMember scale a u
    → IsMember 12 (record { lo = a.lo *ℤ pos (10 ^ k); hi = a.hi *ℤ pos (10 ^ k) }) u
raised scale k a u e m =
    let same = finer u (power scale) (power k) (power 12) (power_sum scale k 12 e) in
    record {
      low = le_along (≈_sym (whole_mul a.lo (pos (10 ^ k)))) same (le_mul (power k) (power_nn k) m.low);
      high = le_along same (≈_sym (whole_mul a.hi (pos (10 ^ k)))) (le_mul (power k) (power_nn k) m.high);
    }

-- rounded outward from a greater one
lowered : (scale k : ℕ) (a : Ends) (u : Frac) → 12 + k ≡ scale → IsMember scale a u
    → IsMember 12 (record { lo = floor a.lo (pos (10 ^ k)); hi = ceil a.hi (pos (10 ^ k)) }) u
lowered scale k a u e m =
    let same = finer u (power 12) (power k) (power scale) (power_sum 12 k scale e) in
    record {
      low = floor_under a.lo (pos (10 ^ k)) (u *Q power 12) (unit_pos k) (le_same_right m.low (≈_sym same));
      high = ceil_over a.hi (pos (10 ^ k)) (u *Q power 12) (unit_pos k) (le_same_left same m.high);
    }

pub at_12-encloses : (scale : ℕ) (a : Ends) (u : Frac) → IsMember scale a u → OnVal (at_12 scale a) (λ r. IsMember 12 r u)
at_12-encloses scale a u m = by (nat_le scale 12) refl
  where
    by : (b : Bool) → nat_le scale 12 ≡ b
        → OnVal (if b then ends (a.lo *ℤ pos (10 ^ (12 - scale))) (a.hi *ℤ pos (10 ^ (12 - scale))) else ends (floor a.lo (pos (10 ^ (scale - 12)))) (ceil a.hi (pos (10 ^ (scale - 12))))) (λ r. IsMember 12 r u)
    by true e = OnVal-ends _ _ (λ r. IsMember 12 r u) (raised scale (12 - scale) a u (grind arith) m)
    by false e = OnVal-ends _ _ (λ r. IsMember 12 r u) (lowered scale (scale - 12) a u (grind arith) m)

square_distance-encloses : (x y : Ends) (u v : Frac) → IsMember 12 x u → IsMember 12 y v → OnVal (square_distance x y) (λ r. IsMember 12 r (u *Q u +Q v *Q v))
square_distance-encloses x y u v p q =
    OnVal-then (iv_square 12 x) _ (λ r. IsMember 12 r (u *Q u)) (λ r. IsMember 12 r (u *Q u +Q v *Q v)) (iv_square-encloses 12 x u p) λ a ha.
    OnVal-then (iv_square 12 y) _ (λ r. IsMember 12 r (v *Q v)) (λ r. IsMember 12 r (u *Q u +Q v *Q v)) (iv_square-encloses 12 y v q) λ b hb.
    iv_plus-encloses 12 a b (u *Q u) (v *Q v) ha hb

-- ---- what each landing gives
abbrev square_at : Point → Frac
square_at p = p.x *Q p.x +Q p.y *Q p.y

x_row-encloses : (a : Landing) (p : Point) → IsIn a p → OnVal (x_row a) (λ r. IsMember 12 r p.x)
x_row-encloses a p i = at_12-encloses a.scale a.x p.x i.x

y_row-encloses : (a : Landing) (p : Point) → IsIn a p → OnVal (y_row a) (λ r. IsMember 12 r p.y)
y_row-encloses a p i = at_12-encloses a.scale a.y p.y i.y

square_row-encloses : (a : Landing) (p : Point) → IsIn a p → OnVal (square_distance_row a) (λ r. IsMember 12 r (square_at p))
square_row-encloses a p i =
    OnVal-then (x_row a) _ (λ r. IsMember 12 r p.x) (λ r. IsMember 12 r (square_at p)) (x_row-encloses a p i) λ x hx.
    OnVal-then (y_row a) _ (λ r. IsMember 12 r p.y) (λ r. IsMember 12 r (square_at p)) (y_row-encloses a p i) λ y hy.
    square_distance-encloses x y p.x p.y hx hy

-- the sums of some intervals hold the sum of one member of each
record HoldsSum (each : List Ends) (vs : List Frac) : Type 0 where
  sums : IsMember 12 (total each) (sum vs)
  count : length each ≡ length vs

zero_units : whole (pos 0) ≈ whole (pos 0) *Q units 12
zero_units = linear (units 12 ∷ []) (whole (pos 0)) (whole (pos 0) *Q units 12) (search reads depth 12) no_fact tt

no_sum : HoldsSum [] []
no_sum = record { sums = record { low = le_of_same zero_units; high = le_of_same (≈_sym zero_units) }; count = refl }

more_sum : (a : Ends) (more : List Ends) (v : Frac) (vs : List Frac) → IsMember 12 a v → HoldsSum more vs → HoldsSum (a ∷ more) (v ∷ vs)
more_sum a more v vs m h = record { sums = plus_law 12 a (total more) v (sum vs) m h.sums; count = ap suc h.count }

of_each-encloses : (f : Landing → Step Ends) (at : Point → Frac) → ((a : Landing) (p : Point) → IsIn a p → OnVal (f a) (λ r. IsMember 12 r (at p)))
    → (all : List Landing) (points : List Point) → AllZip IsIn all points → OnVal (of_each f all) (λ each. HoldsSum each (map at points))
of_each-encloses f at h [] [] z = no_sum
of_each-encloses f at h [] (p ∷ points) z = absurd z
of_each-encloses f at h (a ∷ all) [] z = absurd z
of_each-encloses f at h (a ∷ all) (p ∷ points) z =
    OnVal-then (f a) _ (λ r. IsMember 12 r (at p)) (λ each. HoldsSum each (at p ∷ map at points)) (h a p z.0) λ first hf.
    OnVal-then (of_each f all) _ (λ each. HoldsSum each (map at points)) (λ each. HoldsSum each (at p ∷ map at points)) (of_each-encloses f at h all points z.1) λ rest hr.
    more_sum first rest (at p) (map at points) hf hr

-- ---- means
-- 1 / n
abbrev part_of : ℕ → Frac
part_of n = record { num = pos 1; less = n - 1 }

part_is : (n : ℕ) → 1 ≤ n → part_of n *Q whole (pos n) ≈ whole (pos 1)
part_is zero h = absurd (omega arith)
part_is (suc k) h =
    let e : suc k - 1 ≡ k = omega arith in
    subst (λ j. record { num = pos 1; less = j } *Q whole (pos (suc k)) ≈ whole (pos 1)) (sym e) (ratio_is (pos 1) (pos (suc k)) (λ z. absurd (omega (arith, ints))))

part_nn : (n : ℕ) → whole (pos 0) ≤Q part_of n
unfolding whole
part_nn n = record { cross = omega (arith, ints) }

times_back : (v i n : Frac) → i *Q n ≈ whole (pos 1) → (v *Q i) *Q n ≈ v
times_back v i n e = linear (v ∷ i ∷ n ∷ []) _ _ (search reads depth 20) (fact v e (search reads depth 20) no_fact) tt

mean_row-encloses : (each : List Ends) (vs : List Frac) → 1 ≤ length vs → HoldsSum each vs → OnVal (mean_row each) (λ r. IsMember 12 r (mean vs))
mean_row-encloses each vs some h =
    let n = length vs in
    rw h.count
    (OnVal-ends (floor (sum_lo each) (pos n)) (ceil (sum_hi each) (pos n)) (λ r. IsMember 12 r (mean vs))
    (divide_law 12 (total each) (pos n) (sum vs) (mean vs) (omega (arith, ints)) h.sums (times_back (sum vs) (part_of n) (whole (pos n)) (part_is n some))))

some_points : (points : List Point) → (points ≡ [] → ⊥) → 1 ≤ length points
some_points [] h = absurd (h refl)
some_points (p ∷ points) h = omega arith

-- the mean of what each landing gives, and what follows it
mean-then : {B : Type 0} (f : Landing → Step Ends) (at : Point → Frac) → ((a : Landing) (p : Point) → IsIn a p → OnVal (f a) (λ r. IsMember 12 r (at p)))
    → (all : List Landing) (points : List Point) → IsChoice all points → (g : Ends → Step B) (P : B → Type 0)
    → ((r : Ends) → IsMember 12 r (mean (map at points)) → OnVal (g r) P) → OnVal (of_each f all >>= λ each. mean_row each >>= g) P
mean-then f at h all points chosen g P k =
    OnVal-then (of_each f all) (λ each. mean_row each >>= g) (λ each. HoldsSum each (map at points)) P (of_each-encloses f at h all points chosen.each) λ each he.
    OnVal-then (mean_row each) g (λ r. IsMember 12 r (mean (map at points))) P
    (mean_row-encloses each (map at points) (rw length-map (some_points points chosen.some)) he) k

-- ---- the mean square distance
-- the sum of the squares of the distances from a point, by the sums of the squares and of the heights
abbrev square_sum : Frac → Frac → Frac → Frac → Frac → Frac → Frac
square_sum S X Y n cx cy = S -Q (cx *Q X +Q cx *Q X) -Q (cy *Q Y +Q cy *Q Y) +Q n *Q (cx *Q cx +Q cy *Q cy)

none_square_sum : (cx cy : Frac) → whole (pos 0) ≈ square_sum (whole (pos 0)) (whole (pos 0)) (whole (pos 0)) (whole (pos 0)) cx cy
none_square_sum cx cy = linear (cx ∷ cy ∷ []) _ _ (search reads depth 30 fits 4000) no_fact tt

more_square_sum : (x y D S X Y n m cx cy : Frac) → D ≈ square_sum S X Y n cx cy → m ≈ whole (pos 1) +Q n
    → ((x -Q cx) *Q (x -Q cx) +Q (y -Q cy) *Q (y -Q cy)) +Q D ≈ square_sum ((x *Q x +Q y *Q y) +Q S) (x +Q X) (y +Q Y) m cx cy
more_square_sum x y D S X Y n m cx cy e k =
    linear (m ∷ D ∷ x ∷ y ∷ S ∷ X ∷ Y ∷ n ∷ cx ∷ cy ∷ []) _ _ (search reads depth 30 fits 4000)
    (name k (search reads depth 20 fits 4000) (name e (search reads depth 30 fits 4000) no_fact)) tt

squares-sum : (c : Point) (points : List Point)
    → sum (map (λ a. square_between a c) points) ≈ square_sum (sum (map square_at points)) (sum (map (λ a. a.x) points)) (sum (map (λ a. a.y) points)) (whole (pos (length points))) c.x c.y
squares-sum c [] = none_square_sum c.x c.y
squares-sum c (p ∷ points) =
    more_square_sum p.x p.y _ _ _ _ (whole (pos (length points))) (whole (pos (suc (length points)))) c.x c.y (squares-sum c points)
    (≈_trans (count_next (length points)) (whole_add (pos 1) (pos (length points))))
  where
    count_next : (n : ℕ) → whole (pos (suc n)) ≈ whole (pos 1 +ℤ pos n)
    count_next n = whole_same (omega (arith, ints))

-- about the mean it is the sum of the squares less those of the mean
about_mean : (D S X Y n i cx cy : Frac) → D ≈ square_sum S X Y n cx cy → cx ≈ X *Q i → cy ≈ Y *Q i → i *Q n ≈ whole (pos 1)
    → D *Q i ≈ S *Q i -Q (cx *Q cx +Q cy *Q cy)
about_mean D S X Y n i cx cy d x y e =
    linear (D ∷ cx ∷ cy ∷ S ∷ X ∷ Y ∷ n ∷ i ∷ []) _ _ (search reads depth 30 fits 4000)
    (name d (search reads depth 30 fits 4000) (name x (search reads depth 20 fits 4000) (name y (search reads depth 20 fits 4000)
    (fact ((X *Q i) *Q (X *Q i) +Q (Y *Q i) *Q (Y *Q i)) e (search reads depth 30 fits 4000) no_fact)))) tt

part_of_map : {A B : Type 0} (f : A → B) (xs : List A) → part_of (length (map f xs)) ≡ part_of (length xs)
part_of_map f xs = ap part_of (length-map xs f)

-- a mean by the count of the points
mean_by : (at : Point → Frac) (points : List Point) → mean (map at points) ≡ sum (map at points) *Q part_of (length points)
mean_by at points = ap (λ i. sum (map at points) *Q i) (part_of_map at points)

spread-is : (points : List Point) → 1 ≤ length points
    → spread points ≈ mean (map square_at points) -Q (mean_x points *Q mean_x points +Q mean_y points *Q mean_y points)
spread-is points some =
    let c : Point = record { x = mean_x points; y = mean_y points } in
    let n = length points in
    let i = part_of n in
    let same = about_mean (sum (map (λ a. square_between a c) points)) (sum (map square_at points)) (sum (map (λ a. a.x) points)) (sum (map (λ a. a.y) points))
    (whole (pos n)) i (mean_x points) (mean_y points)
    (squares-sum c points) (same_if_equal (mean_by (λ a. a.x) points)) (same_if_equal (mean_by (λ a. a.y) points)) (part_is n some) in
    subst (λ m. m ≈ mean (map square_at points) -Q square_at c) (sym (mean_by (λ a. square_between a c) points))
    (subst (λ m. sum (map (λ a. square_between a c) points) *Q i ≈ m -Q square_at c) (sym (mean_by square_at points)) same)
  where
    same_if_equal : {u v : Frac} → u ≡ v → u ≈ v
    same_if_equal {u} e = subst (λ v. u ≈ v) e (≈_refl u)

-- it isn't below 0
squares_nn : (c : Point) (points : List Point) → whole (pos 0) ≤Q sum (map (λ a. square_between a c) points)
squares_nn c [] = zero_le_whole 0
squares_nn c (p ∷ points) = add_nn (add_nn (square_nn (p.x -Q c.x)) (square_nn (p.y -Q c.y))) (squares_nn c points)

spread_nn : (points : List Point) → whole (pos 0) ≤Q spread points
spread_nn points =
    let c : Point = record { x = mean_x points; y = mean_y points } in
    mul_nn (squares_nn c points) (part_nn (length (map (λ a. square_between a c) points)))

-- ---- the statistics
abbrev IsCentre : List Point → Ends × Ends → Type 0
IsCentre points c = IsMember 12 c.0 (mean_x points) × IsMember 12 c.1 (mean_y points)

pub centroid_rows-holds : (all : List Landing) → HoldsCentroid all (centroid_rows all)
unfolding centroid_rows
centroid_rows-holds all points chosen =
    mean-then x_row (λ a. a.x) x_row-encloses all points chosen _ (IsCentre points) λ x hx.
    mean-then y_row (λ a. a.y) y_row-encloses all points chosen _ (IsCentre points) λ y hy. (hx, hy)

-- the ends of an interval that is there are within the cap
on_capped : (lo hi : ℤ) (P : Ends → Type 0) → P (record { lo = lo; hi = hi }) → OnVal (ends lo hi) (λ r. P r × (r.hi ≤ℤ pos 1_000_000_000_000_000_000))
unfolding ends
on_capped lo hi P p = by (fits_cap lo && fits_cap hi) refl
  where
    below : (a b : Bool) → (a && b) ≡ true → b ≡ true
    below true true e = refl
    below true false e = cc
    below false b e = cc

    by : (b : Bool) → (fits_cap lo && fits_cap hi) ≡ b → OnVal (if b then Val (record { lo = lo; hi = hi }) else Lost Range) (λ r. P r × (r.hi ≤ℤ pos 1_000_000_000_000_000_000))
    by true e = let h : fits_cap hi ≡ true = below (fits_cap lo) (fits_cap hi) e in (p, grind (arith, ints, nat_tests))
    by false e = tt

difference-encloses : (mean d : Ends) (u v w : Frac) → IsMember 12 mean u → IsMember 12 d v → u -Q v ≈ w
    → OnVal (iv_minus mean d) (λ r. IsMember 12 r w × (r.hi ≤ℤ pos 1_000_000_000_000_000_000))
unfolding iv_minus
difference-encloses mean d u v w p q e =
    on_capped (mean.lo -ℤ d.hi) (mean.hi -ℤ d.lo) (λ r. IsMember 12 r w) (same_law 12 _ (u -Q v) w e (minus_law 12 mean d u v p q))

pub spread_rows-holds : (all : List Landing) → HoldsSpread all (spread_rows all)
unfolding spread_rows
spread_rows-holds all points chosen =
    let P : Ends → Type 0 = λ r. IsMember 12 r (spread points) in
    let c : Point = record { x = mean_x points; y = mean_y points } in
    OnVal-then (centroid_rows all) _ (IsCentre points) P (centroid_rows-holds all points chosen) λ centre hc.
    mean-then square_distance_row square_at square_row-encloses all points chosen _ P λ mean hm.
    OnVal-then (square_distance centre.0 centre.1) _ (λ d. IsMember 12 d (square_at c)) P (square_distance-encloses centre.0 centre.1 c.x c.y hc.0 hc.1) λ d hd.
    OnVal-then (iv_minus mean d) _ (λ r. IsMember 12 r (spread points) × (r.hi ≤ℤ pos 1_000_000_000_000_000_000)) P
    (difference-encloses mean d _ (square_at c) (spread points) hm hd (≈_sym (spread-is points (some_points points chosen.some)))) λ r hr.
    iv_clip-encloses 12 r positive (spread points) hr.0 (record {
      low = mul_nn (spread_nn points) (units_nn 12);
      high = le_trans hr.0.high (le_whole hr.1);
    })
