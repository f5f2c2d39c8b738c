-- The rows of the sag of an even asphere, and of its polynomial and slope. Cited by the sag, the crossing and the normal.
use Rattle.std.specs.Prelude.{ℕ, suc, ℤ, pos, List, [], ◌∷◌}
use Rattle.fixdec.specs.Operations.{Operations}
use Rattle.fixdec.specs.Steps.{◌>>=◌}
use Rattle.fixdec.specs.declared.step.Step.{Step}
use Rattle.fixdec.specs.declared.step.Step.TheVariants.{Val}
use Rattle.lensmodel.specs.Rows.Constants.{whole_row}
use Rattle.lensmodel.specs.Rows.Preparation.{Prepared}

module _ {A : Type 0} (o : Operations A) where
  -- bi + (u*V(i+1)) before the values from V(i+1) on; b8 itself
  abbrev pub horner_step : A → A → List A → Step (List A)
  horner_step u b [] = Val (b ∷ [])
  horner_step u b (v ∷ vs) = do
    Val ((← o.plus b (← o.times u v)) ∷ v ∷ vs)

  -- V8 = b8, Vi = bi + (u*V(i+1)): the values for the coefficients that are left
  abbrev pub horner_rows : A → List A → Step (List A)
  horner_rows u [] = Val []
  horner_rows u (b ∷ more) = horner_rows u more >>= λ vs. horner_step u b vs

  -- f = wd(c*rho), twice the sag of the paraxial sphere
  abbrev pub double_sag_row : Prepared A → A → ℤ → Step A
  double_sag_row face rho e = do
    o.widen (← o.times face.c rho) e

  -- S = zc + (u*V1)
  abbrev pub sum_row : A → A → A → Step A
  sum_row zc u v = do
    o.plus zc (← o.times u v)

module _ {A : Type 0} (o : Operations A) (scale : ℕ) where
  -- the first of a list; a list of coefficients isn't empty
  abbrev pub first_of : List A → Step A
  first_of [] = whole_row o scale (pos 0)
  first_of (v ∷ vs) = Val v

  -- V1
  abbrev pub polynomial_row : A → List A → Step A
  polynomial_row u b = horner_rows o u b >>= λ vs. first_of vs

  -- W8 = 8*b8, Wi = (i*bi) + (u*W(i+1)): the value Wi, for the coefficients from bi on
  abbrev pub slope_row : ℕ → A → List A → Step A
  slope_row i u [] = whole_row o scale (pos 0)
  slope_row i u (b ∷ []) = do
    o.times (← whole_row o scale (pos i)) b
  slope_row i u (b ∷ c ∷ more) = do
    w ← slope_row (suc i) u (c ∷ more)
    o.plus (← o.times (← whole_row o scale (pos i)) b) (← o.times u w)

  -- w = rt(1 - (ck*f))
  abbrev pub conic_w_row : Prepared A → A → Step A
  conic_w_row face f = do
    o.root (← o.minus (← whole_row o scale (pos 1)) (← o.times face.ck f))

  -- w at rho: w = rt(1 - (ck*wd(c*rho)))
  abbrev pub w_row : Prepared A → A → ℤ → Step A
  w_row face rho e = do
    f ← double_sag_row o face rho e
    conic_w_row face f

  -- zc = f/(1 + w)
  abbrev pub conic_sag_row : A → A → Step A
  conic_sag_row f w = do
    o.over f (← o.plus (← whole_row o scale (pos 1)) w)

  -- zc at rho
  abbrev pub conic_rows : Prepared A → A → ℤ → Step A
  conic_rows face rho e = do
    f ← double_sag_row o face rho e
    w ← conic_w_row face f
    conic_sag_row f w

  -- the sag: u = sh(rho, D), S = zc + (u*V1)
  unfoldable pub sag_rows : Prepared A → A → ℤ → Step A
  sag_rows face rho e = do
    zc ← conic_rows face rho e
    u ← o.shift rho face.norm
    v ← polynomial_row u face.b
    sum_row o zc u v
