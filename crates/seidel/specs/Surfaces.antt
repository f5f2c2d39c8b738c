-- The rows of the Seidel sums at one surface, each of rows that may be lost. Cited by their code.
use Rattle.std.specs.Prelude.{ℕ, ℤ, pos, Bool, ◌||◌, [], ◌∷◌}
use Rattle.fixdec.specs.Operations.{Operations}
use Rattle.fixdec.specs.Steps.{◌>>=◌}
use Rattle.fixdec.specs.declared.step.Step.{Step}
use Rattle.lensmodel.specs.Paraxial.FirstOrderRows.{Passing}
use Rattle.lensmodel.specs.Paraxial.Losses.{Worked, to_step, row, some_by_range}
use Rattle.lensmodel.specs.Paraxial.SeidelRows.{Sums, Contribution, sum_row, invariant_row, lagrange_row, petzval_row, slope_change_row, square_change_row, asphericity_row, s1_row, s2_row, s3_row, s4_row, s5_row}
use Rattle.lensmodel.specs.Paraxial.Trace.{even_coefficient}
use Rattle.lensmodel.specs.Rows.Constants.{decimal_row, whole_row}
use Rattle.lensmodel.specs.declared.surface.Surface.{Surface}

-- what the sums of a surface are made of
pub record Terms (A : Type 0) : Type 0 where
  pub a : Worked A
  pub ab : Worked A
  pub h : Worked A
  pub p : Worked A
  pub dun : Worked A
  pub dn2 : Worked A
  pub k8 : Worked A
  pub yy : Worked A
  pub bb : Worked A

module _ {A : Type 0} (o : Operations A) (scale : ℕ) where
  -- ---- parts of the longer rows
  -- c*sq(c)
  abbrev pub cube_row : A → Step A
  cube_row c = do
    o.times c (← o.square c)

  -- kappa*(c*sq(c)), kappa = 1 + k
  abbrev pub conic_row : Surface → Step A
  conic_row f = do
    kappa ← o.plus (← whole_row o scale (pos 1)) (← decimal_row o scale f.conic)
    c ← decimal_row o scale f.curv
    o.times kappa (← cube_row c)

  -- 8*a2
  abbrev pub even_row : Surface → Step A
  even_row f = do
    o.times (← whole_row o scale (pos 8)) (← decimal_row o scale (even_coefficient f.kind f.a2))

  -- k8*((y*yb)*bb)
  abbrev pub aspheric_row : A → A → A → A → Step A
  aspheric_row k8 y yb bb = do
    o.times k8 (← o.times (← o.times y yb) bb)

  -- ((sq(Ab)*y)*dn2)
  abbrev pub turned_row : A → A → A → Step A
  turned_row ab y dn2 = do
    o.times (← o.times (← o.square ab) y) dn2

  -- (P*yb)*(H + (Ab*y))
  abbrev pub field_row : A → A → A → A → A → Step A
  field_row p yb h ab y = do
    o.times (← o.times p yb) (← o.plus h (← o.times ab y))

  -- ---- each row of steps, and of rows that may be lost
  abbrev pub invariant_if : Step A → Step A → Step A → Step A → Step A
  invariant_if n y cv u = do invariant_row o scale (← n) (← y) (← cv) (← u)

  abbrev pub invariant_of : ℕ → Worked A → Worked A → Worked A → Worked A → Worked A
  invariant_of k n y cv u = row k (n ∷ y ∷ cv ∷ u ∷ []) (invariant_if (to_step n) (to_step y) (to_step cv) (to_step u))

  abbrev pub lagrange_if : Step A → Step A → Step A → Step A → Step A
  lagrange_if ab y a yb = do lagrange_row o scale (← ab) (← y) (← a) (← yb)

  abbrev pub lagrange_of : ℕ → Worked A → Worked A → Worked A → Worked A → Worked A
  lagrange_of k ab y a yb = row k (ab ∷ y ∷ a ∷ yb ∷ []) (lagrange_if (to_step ab) (to_step y) (to_step a) (to_step yb))

  abbrev pub petzval_if : Step A → Step A → Step A → Step A
  petzval_if cv n n2 = do petzval_row o scale (← cv) (← n) (← n2)

  abbrev pub petzval_of : ℕ → Worked A → Worked A → Worked A → Worked A
  petzval_of k cv n n2 = row k (cv ∷ n ∷ n2 ∷ []) (petzval_if (to_step cv) (to_step n) (to_step n2))

  abbrev pub slope_change_if : Step A → Step A → Step A → Step A → Step A
  slope_change_if behind n2 u n = do slope_change_row o scale (← behind) (← n2) (← u) (← n)

  abbrev pub slope_change_of : ℕ → Worked A → Worked A → Worked A → Worked A → Worked A
  slope_change_of k behind n2 u n = row k (behind ∷ n2 ∷ u ∷ n ∷ []) (slope_change_if (to_step behind) (to_step n2) (to_step u) (to_step n))

  abbrev pub square_change_if : Step A → Step A → Step A
  square_change_if n n2 = do square_change_row o scale (← n) (← n2)

  abbrev pub square_change_of : ℕ → Worked A → Worked A → Worked A
  square_change_of k n n2 = row k (n ∷ n2 ∷ []) (square_change_if (to_step n) (to_step n2))

  abbrev pub asphericity_if : Surface → Step A → Step A → Step A → Step A
  asphericity_if f cv n n2 = do asphericity_row o scale f (← cv) (← n) (← n2)

  abbrev pub asphericity_of : ℕ → Surface → Worked A → Worked A → Worked A → Worked A
  asphericity_of k f cv n n2 = row k (cv ∷ n ∷ n2 ∷ []) (asphericity_if f (to_step cv) (to_step n) (to_step n2))

  abbrev pub square_if : Step A → Step A
  square_if y = do o.square (← y)

  abbrev pub square_of : ℕ → Worked A → Worked A
  square_of k y = row k (y ∷ []) (square_if (to_step y))

  abbrev pub s1_if : Step A → Step A → Step A → Step A → Step A → ℤ → Step A
  s1_if k8 yy a y dun e = do s1_row o scale (← k8) (← yy) (← a) (← y) (← dun) e

  abbrev pub s1_of : ℕ → Worked A → Worked A → Worked A → Worked A → Worked A → ℤ → Worked A
  s1_of k k8 yy a y dun e = row k (k8 ∷ yy ∷ a ∷ y ∷ dun ∷ []) (s1_if (to_step k8) (to_step yy) (to_step a) (to_step y) (to_step dun) e)

  abbrev pub s2_if : Step A → Step A → Step A → Step A → Step A → Step A → Step A → ℤ → Step A
  s2_if k8 yy y yb a ab dun e = do s2_row o scale (← k8) (← yy) (← y) (← yb) (← a) (← ab) (← dun) e

  abbrev pub s2_of : ℕ → Worked A → Worked A → Worked A → Worked A → Worked A → Worked A → Worked A → ℤ → Worked A
  s2_of k k8 yy y yb a ab dun e = row k (k8 ∷ yy ∷ y ∷ yb ∷ a ∷ ab ∷ dun ∷ []) (s2_if (to_step k8) (to_step yy) (to_step y) (to_step yb) (to_step a) (to_step ab) (to_step dun) e)

  abbrev pub s3_if : Step A → Step A → Step A → Step A → Step A → Step A → ℤ → Step A
  s3_if k8 yy bb ab y dun e = do s3_row o scale (← k8) (← yy) (← bb) (← ab) (← y) (← dun) e

  abbrev pub s3_of : ℕ → Worked A → Worked A → Worked A → Worked A → Worked A → Worked A → ℤ → Worked A
  s3_of k k8 yy bb ab y dun e = row k (k8 ∷ yy ∷ bb ∷ ab ∷ y ∷ dun ∷ []) (s3_if (to_step k8) (to_step yy) (to_step bb) (to_step ab) (to_step y) (to_step dun) e)

  abbrev pub s4_if : Step A → Step A → ℤ → Step A
  s4_if h p e = do s4_row o scale (← h) (← p) e

  abbrev pub s4_of : ℕ → Worked A → Worked A → ℤ → Worked A
  s4_of k h p e = row k (h ∷ p ∷ []) (s4_if (to_step h) (to_step p) e)

  abbrev pub s5_if : Step A → Step A → Step A → Step A → Step A → Step A → Step A → Step A → ℤ → Step A
  s5_if k8 y yb bb ab dn2 p h e = do s5_row o scale (← k8) (← y) (← yb) (← bb) (← ab) (← dn2) (← p) (← h) e

  abbrev pub s5_of : ℕ → Worked A → Worked A → Worked A → Worked A → Worked A → Worked A → Worked A → Worked A → ℤ → Worked A
  s5_of k k8 y yb bb ab dn2 p h e = row k (k8 ∷ y ∷ yb ∷ bb ∷ ab ∷ dn2 ∷ p ∷ h ∷ []) (s5_if (to_step k8) (to_step y) (to_step yb) (to_step bb) (to_step ab) (to_step dn2) (to_step p) (to_step h) e)

  -- the terms at surface j, where f stands
  abbrev pub terms_of : Surface → ℕ → Passing A → Passing A → Terms A
  terms_of f j m b =
      let a = invariant_of (sum_row j 0) m.n m.y m.cv m.u in
      let ab = invariant_of (sum_row j 1) m.n b.y m.cv b.u in
      record {
        a = a;
        ab = ab;
        h = lagrange_of (sum_row j 2) ab m.y a b.y;
        p = petzval_of (sum_row j 3) m.cv m.n m.n2;
        dun = slope_change_of (sum_row j 4) m.behind m.n2 m.u m.n;
        dn2 = square_change_of (sum_row j 5) m.n m.n2;
        k8 = asphericity_of (sum_row j 6) f m.cv m.n m.n2;
        yy = square_of (sum_row j 7) m.y;
        bb = square_of (sum_row j 8) b.y;
      }

  -- the sums of surface j by its terms
  abbrev pub sums_of : ℤ → ℕ → Passing A → Passing A → Terms A → Sums A
  sums_of e j m b t = record {
    s1 = s1_of (sum_row j 9) t.k8 t.yy t.a m.y t.dun e;
    s2 = s2_of (sum_row j 10) t.k8 t.yy m.y b.y t.a t.ab t.dun e;
    s3 = s3_of (sum_row j 11) t.k8 t.yy t.bb t.ab m.y t.dun e;
    s4 = s4_of (sum_row j 12) t.h t.p e;
    s5 = s5_of (sum_row j 13) t.k8 m.y b.y t.bb t.ab t.dn2 t.p t.h e;
  }

-- whether one of some rows is lost by range
abbrev pub terms_by_range : {A : Type 0} → Terms A → Bool
terms_by_range t = some_by_range (t.a ∷ t.ab ∷ t.h ∷ t.p ∷ t.dun ∷ t.dn2 ∷ t.k8 ∷ t.yy ∷ t.bb ∷ [])

abbrev pub sums_by_range : {A : Type 0} → Sums A → Bool
sums_by_range v = some_by_range (v.s1 ∷ v.s2 ∷ v.s3 ∷ v.s4 ∷ v.s5 ∷ [])

-- five sums, and whether a row of them is lost by range
pub record Summed (A : Type 0) : Type 0 where
  pub sums : Sums A
  pub by_range : Bool

-- a surface's sums in short
abbrev pub in_short : {A : Type 0} → Contribution A → Summed A
in_short c = record { sums = c.sums; by_range = some_by_range c.rows }

abbrev pub short : {A : Type 0} → Terms A → Sums A → Summed A
short t v = record { sums = v; by_range = terms_by_range t || sums_by_range v }
