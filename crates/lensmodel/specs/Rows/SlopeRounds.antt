-- Where a line meets an even asphere: four slope rounds over what the cells leave of the window. Cited by the crossing of an
-- even asphere, and by the claim that two crossings are close.
use Rattle.std.specs.Prelude.{ℕ, ℤ, pos, int_lt, List, [], ◌∷◌, if◌then◌else◌}
use Rattle.fixdec.specs.Ends.{Ends}
use Rattle.fixdec.specs.Operations.{Operations}
use Rattle.fixdec.specs.Steps.{◌>>=◌}
use Rattle.fixdec.specs.declared.step.Step.{Step}
use Rattle.fixdec.specs.declared.step.Step.TheVariants.{Val, Empty, Lost}
use Rattle.fixdec.specs.declared.step.Why.TheVariants.{Root}
pub use Rattle.lensmodel.specs.Rows.Cells.{hulls, line_hulls}
use Rattle.lensmodel.specs.Rows.Cells.{window_row, pruned}
use Rattle.lensmodel.specs.Rows.Constants.{whole_row}
use Rattle.lensmodel.specs.Rows.Crossing.{Line, along_row, rho_row}
use Rattle.lensmodel.specs.Rows.Preparation.{Prepared}
use Rattle.lensmodel.specs.Rows.Sag.{horner_rows, first_of, conic_sag_row, sum_row, w_row}
use Rattle.lensmodel.specs.Rows.Spans.{point, middle, up_to, common, hull_or_zero}

-- the points of the line over a window, X, Y and rho, and at its middle z*: X*, Y* and rho*
pub record Points (A : Type 0) : Type 0 where
  pub x : A
  pub mid_x : A
  pub y : A
  pub mid_y : A
  pub rho : A
  pub mid_rho : A

-- the conic at the middle: w* and zc*
pub record MidConic (A : Type 0) : Type 0 where
  pub w : A
  pub sag : A

-- the sag at the middle, S*, and the values V1* to V8*
pub record MidSag (A : Type 0) : Type 0 where
  pub sag : A
  pub values : List A

-- the slope of the residual over the window: m = w + w*, and G
pub record Slope (A : Type 0) : Type 0 where
  pub m : A
  pub g : A

-- what a round's last row needs: z*, S*, m and G
pub record Round (A : Type 0) : Type 0 where
  pub middle : A
  pub sag : A
  pub m : A
  pub g : A

module _ {A : Type 0} (o : Operations A) where
  -- the square of the zone
  abbrev pub zone2_of : Prepared A → Ends
  zone2_of face = hull_or_zero o.hull face.zone2

  -- the middle of a window as a value of one number
  abbrev pub middle_value : Ends → A
  middle_value a = o.of_span (point (middle a))

  -- a value, or Lost Root where its least is below 0
  abbrev pub if_not_below_zero : A → Step A
  if_not_below_zero g = if int_lt (o.hull g).lo (pos 0) then Lost Root else Val g

  -- a value, or Lost Root where its least isn't above 0
  abbrev pub if_above_zero : A → Step A
  if_above_zero g = if int_lt (pos 0) (o.hull g).lo then Val g else Lost Root

  -- X = x0 + (p*Z), X* = x0 + (p*z*), Y and Y* likewise; rho = sq(X) + sq(Y) clipped to the zone, rho* = sq(X*) + sq(Y*)
  abbrev pub points_rows : Ends → Line A → Ends → Step (Points A)
  points_rows zone2 line a = do
    x ← along_row o line.x0 line.p (o.of_span a)
    mid_x ← along_row o line.x0 line.p (middle_value a)
    y ← along_row o line.y0 line.q (o.of_span a)
    mid_y ← along_row o line.y0 line.q (middle_value a)
    rho ← o.clip (← rho_row o x y) (up_to zone2)
    mid_rho ← rho_row o mid_x mid_y
    Val record { x = x; mid_x = mid_x; y = y; mid_y = mid_y; rho = rho; mid_rho = mid_rho }

  -- T = (p*(X + X*)) + (q*(Y + Y*))
  abbrev pub row_T : Line A → Points A → Step A
  row_T line at = do
    o.plus (← o.times line.p (← o.plus at.x at.mid_x)) (← o.times line.q (← o.plus at.y at.mid_y))

  -- B = (c/m) + sh(Q0, D)
  abbrev pub row_B : Prepared A → A → A → Step A
  row_B face m q0 = do
    o.plus (← o.over face.c m) (← o.shift q0 face.norm)

module _ {A : Type 0} (o : Operations A) (scale : ℕ) where
  -- Q7 = V8*, Qi = V(i+1)* + (u*Q(i+1)): the value Qi, for the values from V(i+1)* on
  abbrev pub quotient_row : A → List A → Step A
  quotient_row u [] = whole_row o scale (pos 0)
  quotient_row u (v ∷ []) = Val v
  quotient_row u (v ∷ next ∷ more) = do
    q ← quotient_row u (next ∷ more)
    o.plus v (← o.times u q)

  -- g* = 1 - (ck*f*), not below 0
  abbrev pub mid_g_row : Prepared A → A → Step A
  mid_g_row face f = do
    if_not_below_zero o (← o.minus (← whole_row o scale (pos 1)) (← o.times face.ck f))

  -- f* = c*rho*, w* = rt(wd(g*)), zc* = f*/(1 + w*)
  abbrev pub mid_conic_rows : Prepared A → A → ℤ → Step (MidConic A)
  mid_conic_rows face rho e = do
    f ← o.times face.c rho
    g ← mid_g_row face f
    w ← o.root (← o.widen g e)
    zc ← conic_sag_row o scale f w
    Val record { w = w; sag = zc }

  -- S* = zc* + (u* * V1*)
  abbrev pub mid_sag_rows : Prepared A → A → A → Step (MidSag A)
  mid_sag_rows face u zc = do
    vs ← horner_rows o u face.b
    sag ← sum_row o zc u (← first_of o scale vs)
    Val record { sag = sag; values = vs }

  -- m = w + w*, G = 1 - (T*B), above 0
  abbrev pub slope_rows : Prepared A → Line A → Points A → A → A → A → Step (Slope A)
  slope_rows face line at w mid_w q0 = do
    m ← o.plus w mid_w
    b ← row_B o face m q0
    t ← row_T o line at
    g ← if_above_zero o (← o.minus (← whole_row o scale (pos 1)) (← o.times t b))
    Val record { m = m; g = g }

  -- a round over a window, but for its last row
  unfoldable pub round_rows : Prepared A → Line A → ℤ → Ends → Step (Round A)
  round_rows face line e a = do
    at ← points_rows o (zone2_of o face) line a
    w ← w_row o scale face at.rho e
    conic ← mid_conic_rows face at.mid_rho e
    u ← o.shift at.rho face.norm
    mid_u ← o.shift at.mid_rho face.norm
    mid ← mid_sag_rows face mid_u conic.sag
    q0 ← quotient_row u mid.values
    slope ← slope_rows face line at w conic.w q0
    Val record { middle = middle_value o a; sag = mid.sag; m = slope.m; g = slope.g }

  -- znew = z* + ((wd(S* - z*) + (wd(wd(0))/m))/G)
  abbrev pub next_row : Round A → ℤ → Step A
  next_row r e = do
    missed ← o.widen (← o.minus r.sag r.middle) e
    error ← o.over (← o.widen (← o.widen (← whole_row o scale (pos 0)) e) e) r.m
    o.plus r.middle (← o.over (← o.plus missed error) r.g)

  -- znew of a window
  unfoldable pub next_rows : Prepared A → Line A → ℤ → Ends → Step A
  next_rows face line e a = do
    r ← round_rows face line e a
    next_row r e

  -- the window after a round: where the round is Lost it stays
  abbrev pub narrowed : Ends → Step A → Step Ends
  narrowed a (Val z) = common (o.hull z) a
  narrowed a Empty = Empty
  narrowed a (Lost why) = Val a

  -- the window, pruned twice
  unfoldable pub pruned_window : Prepared A → Line A → ℤ → Step Ends
  pruned_window face line e = do
    first ← window_row scale (hulls o face) (zone2_of o face) e
    second ← pruned scale (hulls o face) (zone2_of o face) (line_hulls o line) e first
    pruned scale (hulls o face) (zone2_of o face) (line_hulls o line) e second

  -- the window at the start of the last round
  unfoldable pub last_window : Prepared A → Line A → ℤ → Step Ends
  last_window face line e = do
    first ← pruned_window face line e
    second ← narrowed first (next_rows face line e first)
    third ← narrowed second (next_rows face line e second)
    narrowed third (next_rows face line e third)

  -- the answer of the last round, clipped to the window at its start; Empty where its hull and the window have nothing in common
  abbrev pub last_answer : Ends → Step A → Step A
  last_answer a answer = do
    z ← answer
    _common ← common (o.hull z) a
    o.clip z a

  -- zj: the window, pruned twice, and four rounds
  unfoldable pub meet_asphere_rows : Prepared A → Line A → ℤ → Step A
  meet_asphere_rows face line e = do
    a ← last_window face line e
    last_answer a (next_rows face line e a)
