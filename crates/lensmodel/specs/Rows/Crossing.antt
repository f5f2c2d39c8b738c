-- The rows of the crossing phase of a surface, but for where an even asphere is met. Cited by the crossing and by the point
-- run.
use Rattle.std.specs.Prelude.{ℕ, ℤ, pos}
use Rattle.fixdec.specs.Operations.{Operations}
use Rattle.fixdec.specs.Steps.{◌>>=◌}
use Rattle.fixdec.specs.declared.step.Step.{Step}
use Rattle.fixdec.specs.declared.step.Step.TheVariants.{Val}
use Rattle.lensmodel.specs.Rows.Constants.{whole_row}
use Rattle.lensmodel.specs.Rows.Preparation.{Prepared}
use Rattle.lensmodel.specs.Rows.Spans.{positive, side_of}
use Rattle.lensmodel.specs.Rows.Start.{Incoming}

-- where a ray meets a surface: w is one minus (1 + k) c times the conic's sag
pub record Met (A : Type 0) : Type 0 where
  pub x : A
  pub y : A
  pub z : A
  pub rho : A
  pub w : A
  pub path : A

-- a line by its foot in the vertex plane of the surface, and its slopes
pub record Line (A : Type 0) : Type 0 where
  pub x0 : A
  pub y0 : A
  pub p : A
  pub q : A

-- the line on which a ray arrives, N clipped to the side of travel, and s = d - z
pub record Arrival (A : Type 0) : Type 0 where
  pub n : A
  pub s : A
  pub line : Line A

-- of the quadratic equation of a conic A z^2 - 2 H z + F = 0: F, H, and R, the root of its discriminant
pub record Root (A : Type 0) : Type 0 where
  pub f : A
  pub h : A
  pub r : A

module _ {A : Type 0} (o : Operations A) where
  -- x0 = wd(x + (p*wd(s))), and y0 likewise
  abbrev pub foot_row : A → A → A → ℤ → Step A
  foot_row x p s e = do
    o.widen (← o.plus x (← o.times p (← o.widen s e))) e

  -- N clipped to the side of travel; p = L/N, q = M/N, s = d - z, and the foot
  unfoldable pub arrival_rows : Prepared A → Incoming A → ℤ → Step (Arrival A)
  arrival_rows face ray e = do
    n ← o.clip ray.n (side_of face.sign)
    p ← o.over ray.l n
    q ← o.over ray.m n
    s ← o.minus face.d ray.z
    x0 ← foot_row ray.x p s e
    y0 ← foot_row ray.y q s e
    Val record { n = n; s = s; line = record { x0 = x0; y0 = y0; p = p; q = q } }

  -- the point of the line at z: x = x0 + (p*z)
  abbrev pub along_row : A → A → A → Step A
  along_row x0 p z = do
    o.plus x0 (← o.times p z)

  -- rho = sq(x) + sq(y)
  abbrev pub rho_row : A → A → Step A
  rho_row x y = do
    o.plus (← o.square x) (← o.square y)

  -- t = wd(s + zj)/N
  abbrev pub length_row : A → A → A → ℤ → Step A
  length_row s z n e = do
    o.over (← o.widen (← o.plus s z) e) n

  -- path = wd(path + (n*t))
  abbrev pub path_row : A → A → A → ℤ → Step A
  path_row path n t e = do
    o.widen (← o.plus path (← o.times n t)) e

  -- the path at the surface
  abbrev pub path_rows : Prepared A → Incoming A → Arrival A → A → ℤ → Step A
  path_rows face ray arrival z e = do
    t ← length_row arrival.s z arrival.n e
    path_row ray.path face.n t e

module _ {A : Type 0} (o : Operations A) (scale : ℕ) where
  -- A = c*((sq(p) + sq(q)) + kappa)
  abbrev pub row_A : Prepared A → Line A → Step A
  row_A face line = do
    o.times face.c (← o.plus (← o.plus (← o.square line.p) (← o.square line.q)) face.kappa)

  -- H = 1 - (c*((p*x0) + (q*y0)))
  abbrev pub row_H : Prepared A → Line A → Step A
  row_H face line = do
    o.minus (← whole_row o scale (pos 1)) (← o.times face.c (← o.plus (← o.times line.p line.x0) (← o.times line.q line.y0)))

  -- F = wd(c*(sq(x0) + sq(y0)))
  abbrev pub row_F : Prepared A → Line A → ℤ → Step A
  row_F face line e = do
    o.widen (← o.times face.c (← rho_row o line.x0 line.y0)) e

  -- R = rt(sq(H) - (A*F))
  abbrev pub row_R : A → A → A → Step A
  row_R a h f = do
    o.root (← o.minus (← o.square h) (← o.times a f))

  -- zj = F/(H + R)
  abbrev pub row_Z : A → A → A → Step A
  row_Z f h r = do
    o.over f (← o.plus h r)

  -- F, H and R
  abbrev pub root_rows : Prepared A → Line A → ℤ → Step (Root A)
  root_rows face line e = do
    a ← row_A face line
    h ← row_H face line
    f ← row_F face line e
    r ← row_R a h f
    Val record { f = f; h = h; r = r }

  -- where the line meets a standard surface
  unfoldable pub meet_standard_rows : Prepared A → Line A → ℤ → Step A
  meet_standard_rows face line e = do
    k ← root_rows face line e
    row_Z k.f k.h k.r

  -- w = cl(1 - (ck*zj))
  abbrev pub standard_w_row : Prepared A → A → Step A
  standard_w_row face z = do
    o.clip (← o.minus (← whole_row o scale (pos 1)) (← o.times face.ck z)) positive
