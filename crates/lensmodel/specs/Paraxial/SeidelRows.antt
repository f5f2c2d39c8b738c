-- The rows of the five Seidel sums, surface by surface and of the whole lens. Cited by the sums and by the command seidel.
use Rattle.std.specs.Prelude.{ℕ, suc, ◌+◌, ◌*◌, ℤ, pos, List, [], ◌∷◌, ◌++◌, map, flat_map}
use Rattle.fixdec.specs.Decimal.{Decimal}
use Rattle.fixdec.specs.IntervalOperations.{operations}
use Rattle.fixdec.specs.Operations.{Operations}
use Rattle.fixdec.specs.Steps.{◌>>=◌}
use Rattle.fixdec.specs.declared.step.Step.{Step}
use Rattle.lensmodel.specs.Rows.Constants.{decimal_row, whole_row, residual_units}
use Rattle.lensmodel.specs.Paraxial.FirstOrderRows.{Passing, nothing, ray_row, ray_rows, rows_of}
use Rattle.lensmodel.specs.Paraxial.Losses.{Worked, to_step, hull_step, row, some_by_range, Attempt, chosen}
use Rattle.lensmodel.specs.Paraxial.Trace.{even_coefficient}
use Rattle.lensmodel.specs.Setup.Values.{surface_at, image}
use Rattle.lensmodel.specs.declared.paraxial.Five.{Five}
use Rattle.lensmodel.specs.declared.paraxial.SeidelOut.{SeidelOut}
use Rattle.lensmodel.specs.declared.setup.Setup.{Setup}
use Rattle.lensmodel.specs.declared.surface.Surface.{Surface}

-- the five sums of one surface, or of the whole lens
pub record Sums (A : Type 0) : Type 0 where
  pub s1 : Worked A
  pub s2 : Worked A
  pub s3 : Worked A
  pub s4 : Worked A
  pub s5 : Worked A

-- a surface's sums, with all rows that stand beside the rays'
pub record Contribution (A : Type 0) : Type 0 where
  pub sums : Sums A
  pub rows : List (Worked A)

-- the number of row i of the sums at surface j: they come after the rows of both rays
abbrev pub sum_row : ℕ → ℕ → ℕ
sum_row j i = 100 * j + 30 + i

module _ {A : Type 0} (o : Operations A) (scale : ℕ) where
  -- A = n*((y*cv) + u)
  abbrev pub invariant_row : A → A → A → A → Step A
  invariant_row n y cv u = do
    o.times n (← o.plus (← o.times y cv) u)

  -- H = (Ab*y) - (A*yb)
  abbrev pub lagrange_row : A → A → A → A → Step A
  lagrange_row ab y a yb = do
    o.minus (← o.times ab y) (← o.times a yb)

  -- P = cv*((1/n') - (1/n))
  abbrev pub petzval_row : A → A → A → Step A
  petzval_row cv n n2 = do
    o.times cv (← o.minus (← o.over (← whole_row o scale (pos 1)) n2) (← o.over (← whole_row o scale (pos 1)) n))

  -- dun = (u'/n') - (u/n)
  abbrev pub slope_change_row : A → A → A → A → Step A
  slope_change_row behind n2 u n = do
    o.minus (← o.over behind n2) (← o.over u n)

  -- dn2 = (1/sq(n')) - (1/sq(n))
  abbrev pub square_change_row : A → A → Step A
  square_change_row n n2 = do
    o.minus (← o.over (← whole_row o scale (pos 1)) (← o.square n2)) (← o.over (← whole_row o scale (pos 1)) (← o.square n))

  -- k8 = (((kappa*(c*sq(c))) + (8*a2)) - (cv*sq(cv)))*(n' - n), kappa = 1 + k
  abbrev pub asphericity_row : Surface → A → A → A → Step A
  asphericity_row f cv n n2 = do
    kappa ← o.plus (← whole_row o scale (pos 1)) (← decimal_row o scale f.conic)
    c ← decimal_row o scale f.curv
    conic ← o.times kappa (← o.times c (← o.square c))
    even ← o.times (← whole_row o scale (pos 8)) (← decimal_row o scale (even_coefficient f.kind f.a2))
    o.times (← o.minus (← o.plus conic even) (← o.times cv (← o.square cv))) (← o.minus n2 n)

  -- S1 = wd((k8*sq(yy)) - ((sq(A)*y)*dun))
  abbrev pub s1_row : A → A → A → A → A → ℤ → Step A
  s1_row k8 yy a y dun e = do
    o.widen (← o.minus (← o.times k8 (← o.square yy)) (← o.times (← o.times (← o.square a) y) dun)) e

  -- S2 = wd((k8*((yy*y)*yb)) - (((A*Ab)*y)*dun))
  abbrev pub s2_row : A → A → A → A → A → A → A → ℤ → Step A
  s2_row k8 yy y yb a ab dun e = do
    o.widen (← o.minus (← o.times k8 (← o.times (← o.times yy y) yb)) (← o.times (← o.times (← o.times a ab) y) dun)) e

  -- S3 = wd((k8*(yy*bb)) - ((sq(Ab)*y)*dun))
  abbrev pub s3_row : A → A → A → A → A → A → ℤ → Step A
  s3_row k8 yy bb ab y dun e = do
    o.widen (← o.minus (← o.times k8 (← o.times yy bb)) (← o.times (← o.times (← o.square ab) y) dun)) e

  -- S4 = wd(0 - (sq(H)*P))
  abbrev pub s4_row : A → A → ℤ → Step A
  s4_row h p e = do
    o.widen (← o.minus (← whole_row o scale (pos 0)) (← o.times (← o.square h) p)) e

  -- S5 = wd((k8*((y*yb)*bb)) - (Ab*(((sq(Ab)*y)*dn2) - ((P*yb)*(H + (Ab*y))))))
  abbrev pub s5_row : A → A → A → A → A → A → A → A → ℤ → Step A
  s5_row k8 y yb bb ab dn2 p h e = do
    aspheric ← o.times k8 (← o.times (← o.times y yb) bb)
    square ← o.times (← o.times (← o.square ab) y) dn2
    field ← o.times (← o.times p yb) (← o.plus h (← o.times ab y))
    o.widen (← o.minus aspheric (← o.times ab (← o.minus square field))) e

  -- surface j + 1, with the marginal ray and the chief ray there
  abbrev pub contribution : Setup → ℤ → ℕ → Passing A → Passing A → Contribution A
  contribution s e j m b =
      let a = row (sum_row (suc j) 0) (m.n ∷ m.y ∷ m.cv ∷ m.u ∷ []) (do
        invariant_row (← to_step m.n) (← to_step m.y) (← to_step m.cv) (← to_step m.u)) in
      let ab = row (sum_row (suc j) 1) (m.n ∷ b.y ∷ m.cv ∷ b.u ∷ []) (do
        invariant_row (← to_step m.n) (← to_step b.y) (← to_step m.cv) (← to_step b.u)) in
      let h = row (sum_row (suc j) 2) (ab ∷ m.y ∷ a ∷ b.y ∷ []) (do
        lagrange_row (← to_step ab) (← to_step m.y) (← to_step a) (← to_step b.y)) in
      let p = row (sum_row (suc j) 3) (m.cv ∷ m.n ∷ m.n2 ∷ []) (do
        petzval_row (← to_step m.cv) (← to_step m.n) (← to_step m.n2)) in
      let dun = row (sum_row (suc j) 4) (m.behind ∷ m.n2 ∷ m.u ∷ m.n ∷ []) (do
        slope_change_row (← to_step m.behind) (← to_step m.n2) (← to_step m.u) (← to_step m.n)) in
      let dn2 = row (sum_row (suc j) 5) (m.n ∷ m.n2 ∷ []) (do square_change_row (← to_step m.n) (← to_step m.n2)) in
      let k8 = row (sum_row (suc j) 6) (m.cv ∷ m.n ∷ m.n2 ∷ []) (do
        asphericity_row (surface_at s (suc j)) (← to_step m.cv) (← to_step m.n) (← to_step m.n2)) in
      let yy = row (sum_row (suc j) 7) (m.y ∷ []) (do o.square (← to_step m.y)) in
      let bb = row (sum_row (suc j) 8) (b.y ∷ []) (do o.square (← to_step b.y)) in
      let s1 = row (sum_row (suc j) 9) (k8 ∷ yy ∷ a ∷ m.y ∷ dun ∷ []) (do
        s1_row (← to_step k8) (← to_step yy) (← to_step a) (← to_step m.y) (← to_step dun) e) in
      let s2 = row (sum_row (suc j) 10) (k8 ∷ yy ∷ m.y ∷ b.y ∷ a ∷ ab ∷ dun ∷ []) (do
        s2_row (← to_step k8) (← to_step yy) (← to_step m.y) (← to_step b.y) (← to_step a) (← to_step ab) (← to_step dun) e) in
      let s3 = row (sum_row (suc j) 11) (k8 ∷ yy ∷ bb ∷ ab ∷ m.y ∷ dun ∷ []) (do
        s3_row (← to_step k8) (← to_step yy) (← to_step bb) (← to_step ab) (← to_step m.y) (← to_step dun) e) in
      let s4 = row (sum_row (suc j) 12) (h ∷ p ∷ []) (do s4_row (← to_step h) (← to_step p) e) in
      let s5 = row (sum_row (suc j) 13) (k8 ∷ m.y ∷ b.y ∷ bb ∷ ab ∷ dn2 ∷ p ∷ h ∷ []) (do
        s5_row (← to_step k8) (← to_step m.y) (← to_step b.y) (← to_step bb) (← to_step ab) (← to_step dn2) (← to_step p) (← to_step h) e) in
      record {
        sums = record { s1 = s1; s2 = s2; s3 = s3; s4 = s4; s5 = s5 };
        rows = a ∷ ab ∷ h ∷ p ∷ dun ∷ dn2 ∷ k8 ∷ yy ∷ bb ∷ s1 ∷ s2 ∷ s3 ∷ s4 ∷ s5 ∷ [];
      }

  -- each surface before the image, from surface j + 1 on
  abbrev pub contributions : Setup → ℤ → ℕ → List (Passing A) → List (Passing A) → List (Contribution A)
  contributions s e j (m ∷ ms) (b ∷ bs) = contribution s e j m b ∷ contributions s e (suc j) ms bs
  contributions s e j ms bs = []

  -- the sum from left to right, with each sum before it; row n adds one number
  abbrev pub added : ℕ → Worked A → List (Worked A) → List (Worked A)
  added n total [] = total ∷ []
  added n total (v ∷ more) = total ∷ added n (row n (total ∷ v ∷ []) (do o.plus (← to_step total) (← to_step v))) more

  abbrev pub totals : ℕ → List (Worked A) → List (Worked A)
  totals n [] = []
  totals n (v ∷ more) = added n v more

  abbrev pub last : List (Worked A) → Worked A
  last [] = nothing
  last (v ∷ []) = v
  last (v ∷ w ∷ more) = last (w ∷ more)

  abbrev pub five : Sums A → Five
  five v = record {
    s1 = hull_step o.hull v.s1;
    s2 = hull_step o.hull v.s2;
    s3 = hull_step o.hull v.s3;
    s4 = hull_step o.hull v.s4;
    s5 = hull_step o.hull v.s5;
  }

  -- the sums of each surface and of the whole lens, at one scale
  unfoldable pub sums_attempt : Setup → ℤ → Decimal → Decimal → Decimal → Decimal → Attempt SeidelOut
  sums_attempt s e y u yb ub =
      let marginal = ray_rows o scale s e 0 y u in
      let chief = ray_rows o scale s e 1 yb ub in
      let per = contributions s e 0 marginal chief in
      let t1 = totals (ray_row (image s) 0 0) (map (λ c. c.sums.s1) per) in
      let t2 = totals (ray_row (image s) 0 1) (map (λ c. c.sums.s2) per) in
      let t3 = totals (ray_row (image s) 0 2) (map (λ c. c.sums.s3) per) in
      let t4 = totals (ray_row (image s) 0 3) (map (λ c. c.sums.s4) per) in
      let t5 = totals (ray_row (image s) 0 4) (map (λ c. c.sums.s5) per) in
      let whole : Sums A = record { s1 = last t1; s2 = last t2; s3 = last t3; s4 = last t4; s5 = last t5 } in
      record {
        out = record { scale = scale; per = record { items = map (λ c. five c.sums) per }; whole = five whole };
        by_range = some_by_range (rows_of marginal ++ rows_of chief ++ flat_map (λ c. c.rows) per ++ t1 ++ t2 ++ t3 ++ t4 ++ t5);
      }

-- the Seidel sums of a setup, in intervals
unfoldable pub seidel_sums : Setup → Decimal → Decimal → Decimal → Decimal → SeidelOut
seidel_sums s y u yb ub = chosen (λ scale. sums_attempt (operations scale) scale s (residual_units scale s.res) y u yb ub)
