-- The rows of a paraxial ray at a surface. The indices carry the sign of travel. Cited by the paraxial trace of a surface.
use Rattle.std.specs.Prelude.{ℕ, suc, ℤ, pos, negsuc}
use Rattle.fixdec.specs.Operations.{Operations}
use Rattle.fixdec.specs.Steps.{◌>>=◌}
use Rattle.fixdec.specs.declared.step.Step.{Step}
use Rattle.fixdec.specs.declared.step.Step.TheVariants.{Val}
use Rattle.lensmodel.specs.Rows.Constants.{decimal_row, whole_row}
use Rattle.lensmodel.specs.Setup.Media.{medium_at}
use Rattle.lensmodel.specs.Paraxial.Trace.{even_coefficient}
use Rattle.lensmodel.specs.Rows.Preparation.{medium_row}
use Rattle.lensmodel.specs.Setup.Values.{surface_at, travel, thickness_of}
use Rattle.lensmodel.specs.declared.setup.Setup.{Setup}
use Rattle.lensmodel.specs.declared.surface.Surface.{Surface}

-- a ray at a surface: the curvature at the vertex, the signed indices before and behind, the slope behind, and the height at
-- the next surface
pub record Parax (A : Type 0) : Type 0 where
  pub cv : Step A
  pub n : Step A
  pub n2 : Step A
  pub u : Step A
  pub next : Step A

module _ {A : Type 0} (o : Operations A) (scale : ℕ) where
  -- cv = c + (a1 + a1)
  abbrev pub vertex_curvature_row : Surface → Step A
  vertex_curvature_row f = do
    a1 ← decimal_row o scale (even_coefficient f.kind f.a1)
    o.plus (← decimal_row o scale f.curv) (← o.plus a1 a1)

  -- the index, or 0 - n where rays travel back
  abbrev pub signed_row : ℤ → A → Step A
  signed_row (pos k) n = Val n
  signed_row (negsuc k) n = do
    o.minus (← whole_row o scale (pos 0)) n

  -- the signed index behind surface j, without a tolerance
  abbrev pub signed_index_row : Setup → ℤ → ℕ → Step A
  signed_index_row s e j = do
    signed_row (travel s j) (← medium_row o scale (medium_at s j) s.wave e)

  -- u' = wd((n*u) - ((y*cv)*(n' - n)))/n'
  abbrev pub slope_behind_row : A → A → A → A → A → ℤ → Step A
  slope_behind_row y u cv n n2 e = do
    o.over (← o.widen (← o.minus (← o.times n u) (← o.times (← o.times y cv) (← o.minus n2 n))) e) n2

  -- next y = wd(y + (d*u'))
  abbrev pub next_height_row : Surface → A → A → ℤ → Step A
  next_height_row f y u e = do
    o.widen (← o.plus y (← o.times (← decimal_row o scale (thickness_of f.thick)) u)) e

  -- the slope behind surface j + 1: the first of cv, n and n' that is lost comes before it
  abbrev pub advanced_slope : Setup → ℤ → ℕ → A → A → Step A
  advanced_slope s e j y u = do
    cv ← vertex_curvature_row (surface_at s (suc j))
    n ← signed_index_row s e j
    n2 ← signed_index_row s e (suc j)
    slope_behind_row y u cv n n2 e

  abbrev pub advanced_height : Setup → ℤ → ℕ → A → A → Step A
  advanced_height s e j y u = do
    next_height_row (surface_at s (suc j)) y (← advanced_slope s e j y u) e

  -- the rows at surface j + 1 of a ray that arrives with height y and slope u
  unfoldable pub advance_rows : Setup → ℤ → ℕ → A → A → Parax A
  advance_rows s e j y u = record {
    cv = vertex_curvature_row (surface_at s (suc j));
    n = signed_index_row s e j;
    n2 = signed_index_row s e (suc j);
    u = advanced_slope s e j y u;
    next = advanced_height s e j y u;
  }
