-- What a setup stands for under one choice of symbols: curvatures, thicknesses, coefficients, and the sign of travel.
-- Cited by the equations and by the preparation.
use Rattle.std.specs.Prelude.{ℕ, zero, suc, ℤ, pos, ◌-◌, neg_ℤ, Bool, true, false, ◌&&◌, nat_eq, nat_lt, List, [], ◌∷◌, length, slice_index_or, Option, Some, None, if◌then◌else◌}
use Rattle.fixdec.specs.Decimal.{Decimal, value}
use Rattle.fixdec.specs.Frac.{Frac, ◌+Q◌, ◌*Q◌, whole}
use Rattle.fixdec.specs.Member.{Symbols}
use Rattle.lensmodel.specs.Equations.Residual.{residual}
use Rattle.lensmodel.specs.declared.setup.Setup.{Setup}
use Rattle.lensmodel.specs.declared.surface.Surface.{Surface}
use Rattle.lensmodel.specs.declared.surface.SurfaceKind.{SurfaceKind}
use Rattle.lensmodel.specs.declared.surface.SurfaceKind.TheVariants.{Standard, EvenAsph}
use Rattle.lensmodel.specs.declared.tolerance.Tol.{Tol}
use Rattle.lensmodel.specs.declared.tolerance.TolBox.{TolBox}
use Rattle.lensmodel.specs.declared.tolerance.TolKind.{TolKind}
use Rattle.lensmodel.specs.declared.tolerance.TolKind.TheVariants.{Curv, Thic, Indx}

abbrev pub zero_decimal : Decimal
zero_decimal = record { mant = pos 0; exp = pos 0 }

-- a plane in air, of thickness 0, without a semi-diameter
abbrev pub plane : Surface
plane = record {
  kind = Standard;
  curv = zero_decimal;
  conic = zero_decimal;
  thick = Some zero_decimal;
  glass = None;
  semi = None;
  rim = false;
  mirror = false;
  a1 = zero_decimal;
  a2 = zero_decimal;
  a3 = zero_decimal;
  a4 = zero_decimal;
  a5 = zero_decimal;
  a6 = zero_decimal;
  a7 = zero_decimal;
  a8 = zero_decimal;
}

-- surface j, counted from the object, which is 0
abbrev pub surface_at : Setup → ℕ → Surface
surface_at s j = slice_index_or s.lens.surfaces.items j plane

-- the number of the image, the last surface
abbrev pub image : Setup → ℕ
image s = length s.lens.surfaces.items - 1

-- whether surface j reflects: it is marked as a mirror and isn't the image
abbrev pub reflects : Setup → ℕ → Bool
reflects s j = (surface_at s j).mirror && nat_lt j (image s)

-- the surface that owns the medium behind surface j: the last one up to j that doesn't reflect
abbrev pub owner : Setup → ℕ → ℕ
owner s zero = zero
owner s (suc j) = if reflects s (suc j) then owner s j else suc j

-- the sign of travel behind surface j: 1 along the axis, and turned by each mirror
abbrev pub travel : Setup → ℕ → ℤ
travel s zero = pos 1
travel s (suc j) = if reflects s (suc j) then neg_ℤ (travel s j) else travel s j

abbrev pub same_kind : TolKind → TolKind → Bool
same_kind Curv Curv = true
same_kind Thic Thic = true
same_kind Indx Indx = true
same_kind a b = false

-- whether a tolerance stands on this value of surface j
abbrev pub stands_on : TolKind → ℕ → Tol → Bool
stands_on kind j t = same_kind t.kind kind && nat_eq t.surface j

-- the tolerances of a setup: none without a box
abbrev pub tolerances : Option TolBox → List Tol
tolerances None = []
tolerances (Some box) = box.list.items

-- the deviation of a value: its tolerance times its symbol, where it has one. Symbols go by the tolerances' places, from i on
abbrev pub deviation_from : ℕ → List Tol → Symbols → TolKind → ℕ → Frac
deviation_from i [] symbols kind j = whole (pos 0)
deviation_from i (t ∷ ts) symbols kind j =
    if stands_on kind j t then value t.delta *Q symbols.at i else deviation_from (suc i) ts symbols kind j

abbrev pub deviation : Setup → Symbols → TolKind → ℕ → Frac
deviation s symbols kind j = deviation_from 0 (tolerances s.toler) symbols kind j

-- the curvature of surface j: its decimal plus its deviation
abbrev pub curvature : Setup → Symbols → ℕ → Frac
curvature s symbols j = value (surface_at s j).curv +Q deviation s symbols Curv j

-- one plus the conic constant of surface j
abbrev pub conic_factor : Setup → ℕ → Frac
conic_factor s j = whole (pos 1) +Q value (surface_at s j).conic

-- the decimal of a thickness; an infinite one isn't used
abbrev pub thickness_of : Option Decimal → Decimal
thickness_of None = zero_decimal
thickness_of (Some d) = d

-- the semi-diameter that clips: that of a surface with a rim
abbrev pub rim_of : Surface → Option Decimal
rim_of f = if f.rim then f.semi else None

-- a written thickness; an infinite one isn't used
abbrev pub written_thickness : Option Decimal → Frac
written_thickness None = whole (pos 0)
written_thickness (Some d) = value d

-- the distance from the vertex of surface j to the next: exactly 0 where a ray starts, in the vertex plane of surface 1
abbrev pub distance : Setup → Symbols → ℕ → Frac
distance s symbols zero = whole (pos 0)
distance s symbols (suc j) = written_thickness (surface_at s (suc j)).thick +Q deviation s symbols Thic (suc j)

-- the coefficients a1 to a8 of an even asphere; a standard surface has none, whatever its fields hold
abbrev pub coefficients_of : SurfaceKind → Surface → List Decimal
coefficients_of Standard f = []
coefficients_of EvenAsph f = f.a1 ∷ f.a2 ∷ f.a3 ∷ f.a4 ∷ f.a5 ∷ f.a6 ∷ f.a7 ∷ f.a8 ∷ []

abbrev pub coefficients : Setup → ℕ → List Decimal
coefficients s j = coefficients_of (surface_at s j).kind (surface_at s j)

-- a1 r + a2 r^2 + a3 r^3 + ..
abbrev pub even_terms : List Decimal → Frac → Frac
even_terms [] r = whole (pos 0)
even_terms (a ∷ more) r = r *Q (value a +Q even_terms more r)

-- k a1 + (k + 1) a2 r + (k + 2) a3 r^2 + ..
abbrev pub slope_terms : ℕ → List Decimal → Frac → Frac
slope_terms k [] r = whole (pos 0)
slope_terms k (a ∷ more) r = whole (pos k) *Q value a +Q r *Q slope_terms (suc k) more r

-- the residual of a setup
abbrev pub eps : Setup → Frac
eps s = residual s.res
