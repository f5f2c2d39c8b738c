-- The rows of the first-order values, and the rays that they are made from.
-- Cited by the first-order values and by the command first.
use Rattle.std.specs.Prelude.{ℕ, zero, suc, ◌+◌, ◌*◌, ◌-◌, ℤ, pos, List, [], ◌∷◌, ◌++◌, slice_index_or}
use Rattle.fixdec.specs.Decimal.{Decimal}
use Rattle.fixdec.specs.Ends.{Ends}
use Rattle.fixdec.specs.IntervalOperations.{operations}
use Rattle.fixdec.specs.Operations.{Operations}
use Rattle.fixdec.specs.Steps.{◌>>=◌}
use Rattle.fixdec.specs.declared.step.Step.{Step}
use Rattle.fixdec.specs.declared.step.Why.TheVariants.{Root}
use Rattle.lensmodel.specs.Rows.Constants.{decimal_row, whole_row, residual_units}
use Rattle.lensmodel.specs.Paraxial.Losses.{Worked, gone, to_step, hull_step, row, some_by_range, Attempt, chosen}
use Rattle.lensmodel.specs.Paraxial.TraceRows.{vertex_curvature_row, signed_index_row, slope_behind_row, next_height_row}
use Rattle.lensmodel.specs.Setup.Values.{zero_decimal, surface_at, image}
use Rattle.lensmodel.specs.declared.paraxial.FirstOut.{FirstOut}
use Rattle.lensmodel.specs.declared.setup.Setup.{Setup}

-- the number of row i of ray r at surface j, in the order of all rows: surface by surface, the first ray before the second
abbrev pub ray_row : ℕ → ℕ → ℕ → ℕ
ray_row j r i = 100 * j + 10 * r + i

-- a ray at one surface: the height and the slope with which it arrives, and what the rows give
pub record Passing (A : Type 0) : Type 0 where
  pub y : Worked A
  pub u : Worked A
  pub cv : Worked A
  pub n : Worked A
  pub n2 : Worked A
  pub behind : Worked A
  pub next : Worked A

-- the six values, in the order of their rows
pub record FirstRows (A : Type 0) : Type 0 where
  pub efl : Worked A
  pub bfl : Worked A
  pub ffl : Worked A
  pub back : Worked A
  pub front : Worked A
  pub enp : Worked A

-- rays without a surface have no last one: this is never used of a lens
abbrev pub nothing : {A : Type 0} → Worked A
nothing = gone 0 Root

abbrev pub nowhere : {A : Type 0} → Passing A
nowhere = record { y = nothing; u = nothing; cv = nothing; n = nothing; n2 = nothing; behind = nothing; next = nothing }

abbrev pub first_of : {A : Type 0} → List (Passing A) → Passing A
first_of [] = nowhere
first_of (a ∷ more) = a

abbrev pub last_of : {A : Type 0} → List (Passing A) → Passing A
last_of [] = nowhere
last_of (a ∷ []) = a
last_of (a ∷ b ∷ more) = last_of (b ∷ more)

-- the heights at each surface from 1 to the image
abbrev pub heights : {A : Type 0} → List (Passing A) → List (Worked A)
heights [] = []
heights (a ∷ []) = a.y ∷ a.next ∷ []
heights (a ∷ b ∷ more) = a.y ∷ heights (b ∷ more)

-- the height at surface j from 1 on
abbrev pub height_at : {A : Type 0} → ℕ → List (Passing A) → Worked A
height_at j ray = slice_index_or (heights ray) (j - 1) nothing

-- each height with the slope behind its surface; the image's slope is the one that arrives
abbrev pub trail_of : {A : Type 0} → (A → Ends) → List (Passing A) → List (Step Ends × Step Ends)
trail_of hull [] = []
trail_of hull (a ∷ []) = (hull_step hull a.y, hull_step hull a.behind) ∷ (hull_step hull a.next, hull_step hull a.behind) ∷ []
trail_of hull (a ∷ b ∷ more) = (hull_step hull a.y, hull_step hull a.behind) ∷ trail_of hull (b ∷ more)

-- all rows of a ray
abbrev pub rows_of : {A : Type 0} → List (Passing A) → List (Worked A)
rows_of [] = []
rows_of (a ∷ more) = a.y ∷ a.u ∷ a.cv ∷ a.n ∷ a.n2 ∷ a.behind ∷ a.next ∷ rows_of more

module _ {A : Type 0} (o : Operations A) (scale : ℕ) (s : Setup) (e : ℤ) where
  -- ray r at surface j + 1
  abbrev pub passing : ℕ → ℕ → Worked A → Worked A → Passing A
  passing r j y u =
      let cv = row (ray_row (suc j) r 0) [] (vertex_curvature_row o scale (surface_at s (suc j))) in
      let n = row (ray_row (suc j) r 1) [] (signed_index_row o scale s e j) in
      let n2 = row (ray_row (suc j) r 2) [] (signed_index_row o scale s e (suc j)) in
      let behind = row (ray_row (suc j) r 3) (n ∷ u ∷ y ∷ cv ∷ n2 ∷ []) (do
        slope_behind_row o scale (← to_step y) (← to_step u) (← to_step cv) (← to_step n) (← to_step n2) e) in
      let next = row (ray_row (suc j) r 4) (y ∷ behind ∷ []) (do
        next_height_row o scale (surface_at s (suc j)) (← to_step y) (← to_step behind) e) in
      record { y = y; u = u; cv = cv; n = n; n2 = n2; behind = behind; next = next }

  -- ray r through the surfaces that are left, from behind surface j
  abbrev pub onwards : ℕ → ℕ → ℕ → Worked A → Worked A → List (Passing A)
  onwards r zero j y u = []
  onwards r (suc left) j y u =
      let here = passing r j y u in
      here ∷ onwards r left (suc j) here.next here.behind

  -- ray r through every surface before the image
  unfoldable pub ray_rows : ℕ → Decimal → Decimal → List (Passing A)
  ray_rows r y u = onwards r (image s - 1) 0 (row (ray_row 0 r 0) [] (decimal_row o scale y)) (row (ray_row 0 r 1) [] (decimal_row o scale u))

  -- wd(0 - a)/b, and wd(a)/b
  abbrev pub minus_over_row : A → A → Step A
  minus_over_row a b = do
    o.over (← o.widen (← o.minus (← whole_row o scale (pos 0)) a) e) b

  abbrev pub over_row : A → A → Step A
  over_row a b = do
    o.over (← o.widen a e) b

  -- efl: wd(0 - 1)/Ca
  abbrev pub efl_row : A → Step A
  efl_row ca = do
    minus_over_row (← whole_row o scale (pos 1)) ca

  -- front: ffl + ((n0*efl)/nk)
  abbrev pub front_row : A → A → A → A → Step A
  front_row ffl n0 efl nk = do
    o.plus ffl (← o.over (← o.times n0 efl) nk)

  -- enp: wd(sb)/sa at the stop; the object as a stop has none
  abbrev pub enp_rows : ℕ → List (Passing A) → List (Passing A) → Worked A
  enp_rows zero a b = gone (ray_row (image s) 0 5) Root
  enp_rows (suc stop) a b =
      let sa = height_at (suc stop) a in
      let sb = height_at (suc stop) b in
      row (ray_row (image s) 0 5) (sb ∷ sa ∷ []) (do over_row (← to_step sb) (← to_step sa))

  -- the six values of the rays a, which starts with height 1 and slope 0, and b, which starts with height 0 and slope 1
  abbrev pub value_rows : List (Passing A) → List (Passing A) → FirstRows A
  value_rows a b =
      let ca = (last_of a).behind in
      let cb = (last_of b).behind in
      let ya = (last_of a).y in
      let n0 = (first_of a).n in
      let nk = (last_of a).n2 in
      let efl = row (ray_row (image s) 0 0) (ca ∷ []) (do efl_row (← to_step ca)) in
      let bfl = row (ray_row (image s) 0 1) (ya ∷ ca ∷ []) (do minus_over_row (← to_step ya) (← to_step ca)) in
      let ffl = row (ray_row (image s) 0 2) (cb ∷ ca ∷ []) (do over_row (← to_step cb) (← to_step ca)) in
      let back = row (ray_row (image s) 0 3) (bfl ∷ efl ∷ []) (do o.minus (← to_step bfl) (← to_step efl)) in
      let front = row (ray_row (image s) 0 4) (ffl ∷ n0 ∷ efl ∷ nk ∷ []) (do
        front_row (← to_step ffl) (← to_step n0) (← to_step efl) (← to_step nk)) in
      record { efl = efl; bfl = bfl; ffl = ffl; back = back; front = front; enp = enp_rows s.lens.stop a b }

  abbrev pub first_out : FirstRows A → List (Passing A) → FirstOut
  first_out v asked = record {
    scale = scale;
    efl = hull_step o.hull v.efl;
    bfl = hull_step o.hull v.bfl;
    ffl = hull_step o.hull v.ffl;
    front = hull_step o.hull v.front;
    back = hull_step o.hull v.back;
    enp = hull_step o.hull v.enp;
    trail = record { items = trail_of o.hull asked };
  }

  -- the values, and the trail of the asked ray, at one scale
  unfoldable pub first_attempt : Decimal → Decimal → Attempt FirstOut
  first_attempt y u =
      let one : Decimal = record { mant = pos 1; exp = pos 0 } in
      let a = ray_rows 0 one zero_decimal in
      let b = ray_rows 1 zero_decimal one in
      let asked = ray_rows 2 y u in
      let v = value_rows a b in
      record {
        out = first_out v asked;
        by_range = some_by_range (rows_of a ++ rows_of b ++ rows_of asked ++ (v.efl ∷ v.bfl ∷ v.ffl ∷ v.back ∷ v.front ∷ v.enp ∷ []));
      }

-- the first-order values of a setup, in intervals
unfoldable pub first_order : Setup → Decimal → Decimal → FirstOut
first_order s y u = chosen (λ scale. first_attempt (operations scale) scale s (residual_units scale s.res) y u)
