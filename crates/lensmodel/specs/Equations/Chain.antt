-- A chain: what one exact ray is, surface by surface. Cited by the equations.
use Rattle.std.specs.Prelude.{ℕ}
use Rattle.fixdec.specs.Frac.{Frac, ◌+Q◌}
use Rattle.fixdec.specs.Member.{Symbols}
use Rattle.lensmodel.specs.Setup.Values.{owner, deviation}
use Rattle.lensmodel.specs.declared.setup.Setup.{Setup}
use Rattle.lensmodel.specs.declared.tolerance.TolKind.TheVariants.{Indx}

-- fractions by the number of the surface, 0 being the start in the vertex plane of surface 1
pub record Chain : Type 0 where
  -- the symbols of the tolerances
  pub symbols : Symbols
  -- the index of the medium that a surface owns, before its tolerance is added
  pub glass_index : ℕ → Frac
  -- the point on the surface, from its vertex
  pub x : ℕ → Frac
  pub y : ℕ → Frac
  pub z : ℕ → Frac
  -- the optical path to the point
  pub path : ℕ → Frac
  -- the square of the point's distance from the axis
  pub rho : ℕ → Frac
  -- the sag of the surface's conic there
  pub conic_sag : ℕ → Frac
  -- one minus (1 + k) c times the conic's sag
  pub w : ℕ → Frac
  -- the direction cosines with which the ray leaves the surface
  pub l : ℕ → Frac
  pub m : ℕ → Frac
  pub n : ℕ → Frac

-- the index behind surface j: that of its medium's owner, plus the owner's deviation
abbrev pub index_behind : Setup → Chain → ℕ → Frac
index_behind s c j = c.glass_index (owner s j) +Q deviation s c.symbols Indx (owner s j)
