-- The rows of a whole crossing phase: from the ray that arrives to the point on the surface. Cited by the crossing and the walk.
use Rattle.std.specs.Prelude.{ℕ, ℤ}
use Rattle.fixdec.specs.Operations.{Operations}
use Rattle.fixdec.specs.Steps.{◌>>=◌}
use Rattle.fixdec.specs.declared.step.Step.{Step}
use Rattle.fixdec.specs.declared.step.Step.TheVariants.{Val}
use Rattle.lensmodel.specs.Rows.Crossing.{Met, Arrival, Line, arrival_rows, along_row, rho_row, meet_standard_rows, standard_w_row, path_rows}
use Rattle.lensmodel.specs.Rows.Preparation.{Prepared}
use Rattle.lensmodel.specs.Rows.Sag.{w_row}
use Rattle.lensmodel.specs.Rows.SlopeRounds.{meet_asphere_rows, zone2_of}
use Rattle.lensmodel.specs.Rows.Spans.{up_to}
use Rattle.lensmodel.specs.Rows.Start.{Incoming}
use Rattle.lensmodel.specs.declared.surface.SurfaceKind.{SurfaceKind}
use Rattle.lensmodel.specs.declared.surface.SurfaceKind.TheVariants.{Standard, EvenAsph}

module _ {A : Type 0} (o : Operations A) (scale : ℕ) where
  -- zj, where the line meets the surface
  abbrev pub meet_by : SurfaceKind → Prepared A → Line A → ℤ → Step A
  meet_by Standard face line e = meet_standard_rows o scale face line e
  meet_by EvenAsph face line e = meet_asphere_rows o scale face line e

  unfoldable pub meet_rows : Prepared A → Line A → ℤ → Step A
  meet_rows face line e = meet_by face.kind face line e

  -- xj = x0 + (p*zj), yj = y0 + (q*zj), rho and w: of a standard surface w comes before the point; of an even asphere rho is
  -- clipped to the zone, and w follows from it
  abbrev pub point_rows : SurfaceKind → Prepared A → Incoming A → Arrival A → A → ℤ → Step (Met A)
  point_rows Standard face ray arrival z e = do
    w ← standard_w_row o scale face z
    x ← along_row o arrival.line.x0 arrival.line.p z
    y ← along_row o arrival.line.y0 arrival.line.q z
    rho ← rho_row o x y
    path ← path_rows o face ray arrival z e
    Val record { x = x; y = y; z = z; rho = rho; w = w; path = path }
  point_rows EvenAsph face ray arrival z e = do
    x ← along_row o arrival.line.x0 arrival.line.p z
    y ← along_row o arrival.line.y0 arrival.line.q z
    rho ← o.clip (← rho_row o x y) (up_to (zone2_of o face))
    w ← w_row o scale face rho e
    path ← path_rows o face ray arrival z e
    Val record { x = x; y = y; z = z; rho = rho; w = w; path = path }

  unfoldable pub hit_rows : Prepared A → Incoming A → ℤ → Step (Met A)
  hit_rows face ray e = do
    arrival ← arrival_rows o face ray e
    z ← meet_rows face arrival.line e
    point_rows face.kind face ray arrival z e
