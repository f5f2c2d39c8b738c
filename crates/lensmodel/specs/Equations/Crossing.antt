-- From one surface to the next, and the crossing with it. Cited by chains and by the claims of the crossing.
use Rattle.std.specs.Prelude.{ℕ, suc, pos, Option, Some, None}
use Rattle.fixdec.specs.Decimal.{Decimal}
use Rattle.fixdec.specs.Frac.{Frac, ◌≈◌, ◌≤Q◌, ◌<Q◌, ◌+Q◌, ◌-Q◌, ◌*Q◌, whole}
use Rattle.fixdec.specs.Zone.{zone, nano}
use Rattle.lensmodel.specs.Equations.Chain.{Chain, index_behind}
use Rattle.lensmodel.specs.Equations.Residual.{IsWithin}
use Rattle.lensmodel.specs.Setup.Values.{surface_at, travel, curvature, conic_factor, distance, coefficients_of, even_terms, eps}
use Rattle.lensmodel.specs.declared.setup.Setup.{Setup}
use Rattle.lensmodel.specs.declared.surface.Surface.{Surface}
use Rattle.lensmodel.specs.declared.surface.SurfaceKind.{SurfaceKind}
use Rattle.lensmodel.specs.declared.surface.SurfaceKind.TheVariants.{Standard, EvenAsph}

-- the straight line from surface j to surface j + 1, whose length is t
pub record Transfers (s : Setup) (c : Chain) (j : ℕ) : Type 0 where
  pub t : Frac
  pub x : IsWithin (eps s) (c.x (suc j)) (c.x j +Q c.l j *Q t)
  pub y : IsWithin (eps s) (c.y (suc j)) (c.y j +Q c.m j *Q t)
  pub z : IsWithin (eps s) (c.z j +Q c.n j *Q t) (distance s c.symbols j +Q c.z (suc j))
  pub path : IsWithin (eps s) (c.path (suc j)) (c.path j +Q index_behind s c j *Q t)
  pub onwards : whole (pos 0) <Q whole (travel s j) *Q c.n j

-- the zone of an even asphere; without a semi-diameter it has none
abbrev pub zone_of : Option Decimal → Frac
zone_of None = whole (pos 0)
zone_of (Some semi) = nano (zone semi)

-- the sag by the kind of the surface: the conic's, exactly; or the conic's plus the even terms, within eps
abbrev pub IsSag : SurfaceKind → Frac → Surface → Frac → Frac → Frac → Type 0
IsSag Standard eps f z conic_sag rho = z ≈ conic_sag
IsSag EvenAsph eps f z conic_sag rho = IsWithin eps z (conic_sag +Q even_terms (coefficients_of EvenAsph f) rho)

-- the side of the surface on which the crossing lies: of the two crossings of a conic the first that a ray meets, which is
-- where the surface faces it; on an even asphere a point within the zone
abbrev pub IsOnSide : SurfaceKind → Setup → Chain → ℕ → Type 0
IsOnSide Standard s c j =
    whole (travel s j) *Q (curvature s c.symbols (suc j) *Q (c.x (suc j) *Q c.l j +Q c.y (suc j) *Q c.m j))
    ≤Q whole (travel s j) *Q (c.w (suc j) *Q c.n j)
IsOnSide EvenAsph s c j =
    let zone = zone_of (surface_at s (suc j)).semi in
    c.rho (suc j) ≤Q zone *Q zone

-- the point on surface j + 1, which the ray of surface j meets
pub record Crosses (s : Setup) (c : Chain) (j : ℕ) : Type 0 where
  pub rho : c.rho (suc j) ≈ c.x (suc j) *Q c.x (suc j) +Q c.y (suc j) *Q c.y (suc j)
  pub w : c.w (suc j) ≈ whole (pos 1) -Q conic_factor s (suc j) *Q curvature s c.symbols (suc j) *Q c.conic_sag (suc j)
  pub near_vertex : whole (pos 0) ≤Q c.w (suc j)
  pub conic : IsWithin (eps s)
      (curvature s c.symbols (suc j) *Q (c.rho (suc j) +Q conic_factor s (suc j) *Q c.conic_sag (suc j) *Q c.conic_sag (suc j)))
      (whole (pos 2) *Q c.conic_sag (suc j))
  pub sag : IsSag (surface_at s (suc j)).kind (eps s) (surface_at s (suc j)) (c.z (suc j)) (c.conic_sag (suc j)) (c.rho (suc j))
  pub side : IsOnSide (surface_at s (suc j)).kind s c j
