-- Paraxial rays: the trace equations near the axis, without a box. The indices carry the sign of travel.
-- Cited by the first-order values and by the sums.
use Rattle.std.specs.Prelude.{ℕ, suc, ◌-◌, ◌<◌, pos}
use Rattle.fixdec.specs.Decimal.{Decimal, value}
use Rattle.fixdec.specs.Frac.{Frac, ◌≈◌, ◌+Q◌, ◌-Q◌, ◌*Q◌, whole}
use Rattle.lensmodel.specs.Equations.Dispersion.{IsIndex}
use Rattle.lensmodel.specs.Setup.Media.{medium_at}
use Rattle.lensmodel.specs.Equations.Residual.{IsWithin}
use Rattle.lensmodel.specs.Setup.Values.{zero_decimal, surface_at, image, owner, travel, written_thickness, eps}
use Rattle.lensmodel.specs.declared.setup.Setup.{Setup}
use Rattle.lensmodel.specs.declared.surface.SurfaceKind.{SurfaceKind}
use Rattle.lensmodel.specs.declared.surface.SurfaceKind.TheVariants.{Standard, EvenAsph}

-- a ray by the numbers of surfaces: its height at surface j, and its slope behind surface j, 0 being the object
pub record ParaxialRay : Type 0 where
  pub y : ℕ → Frac
  pub u : ℕ → Frac

-- each medium has an index, which a function gives by the surface that owns it: one index serves all places
abbrev pub AreIndices : Setup → (ℕ → Frac) → Type 0
AreIndices s index = (i : ℕ) → i < image s → IsIndex (eps s) (medium_at s i) s.wave (index (owner s i))

-- the signed index behind surface j
abbrev pub signed_index : Setup → (ℕ → Frac) → ℕ → Frac
signed_index s index j = whole (travel s j) *Q index (owner s j)

-- a coefficient of an even asphere; 0 of a standard surface
abbrev pub even_coefficient : SurfaceKind → Decimal → Decimal
even_coefficient Standard a = zero_decimal
even_coefficient EvenAsph a = a

-- a coefficient as surface j has it
abbrev pub even_value : Setup → Decimal → ℕ → Frac
even_value s a j = value (even_coefficient (surface_at s j).kind a)

-- the curvature of surface j at its vertex, exactly: cv = c + 2 a1
abbrev pub vertex_curvature : Setup → ℕ → Frac
vertex_curvature s j = value (surface_at s j).curv +Q whole (pos 2) *Q even_value s (surface_at s j).a1 j

-- the written distance from the vertex of surface j to the next
abbrev pub thickness : Setup → ℕ → Frac
thickness s j = written_thickness (surface_at s j).thick

-- at each surface before the image: n' u' = n u - y cv (n' - n) and y' = y + d u'
pub record IsParaxial (s : Setup) (index : ℕ → Frac) (r : ParaxialRay) : Type 0 where
  pub refraction : (j : ℕ) → suc j < image s →
      let n = signed_index s index j in
      let n' = signed_index s index (suc j) in
      IsWithin (eps s) (n' *Q r.u (suc j)) (n *Q r.u j -Q r.y (suc j) *Q vertex_curvature s (suc j) *Q (n' -Q n))
  pub transfer : (j : ℕ) → suc j < image s →
      IsWithin (eps s) (r.y (suc (suc j))) (r.y (suc j) +Q thickness s (suc j) *Q r.u (suc j))

-- a paraxial ray that arrives at surface 1 with a height and a slope
pub record IsParaxialFrom (s : Setup) (index : ℕ → Frac) (y u : Decimal) (r : ParaxialRay) : Type 0 where
  pub height : r.y 1 ≈ value y
  pub slope : r.u 0 ≈ value u
  pub trace : IsParaxial s index r

-- the surface before the image
abbrev pub last_surface : Setup → ℕ
last_surface s = image s - 1
