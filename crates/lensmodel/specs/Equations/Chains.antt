-- Chains to a surface, chains that leave it, whole chains, and clearing a rim. Cited by what a row claims.
use Rattle.std.specs.Prelude.{ℕ, zero, suc, ◌<◌, ◌≤◌, Bool, true, false, Option, Some, None}
use Rattle.fixdec.specs.Decimal.{Decimal, value}
use Rattle.fixdec.specs.Frac.{Frac, ◌≤Q◌, ◌*Q◌}
use Rattle.lensmodel.specs.Equations.Bending.{Bends}
use Rattle.lensmodel.specs.Equations.Chain.{Chain}
use Rattle.lensmodel.specs.Equations.Crossing.{Transfers, Crosses}
use Rattle.lensmodel.specs.Equations.Dispersion.{IsIndex}
use Rattle.lensmodel.specs.Equations.Start.{Starts}
use Rattle.lensmodel.specs.Setup.Media.{medium_at}
use Rattle.lensmodel.specs.Setup.Values.{surface_at, image, owner, eps}
use Rattle.lensmodel.specs.declared.launch.Launch.{Launch}
use Rattle.lensmodel.specs.declared.setup.Setup.{Setup}

-- the ray starts as it is asked, each medium has an index, each surface up to j is reached and crossed, and each before j
-- is left by its law
pub record IsChainTo (s : Setup) (ray : Launch) (j : ℕ) (c : Chain) : Type 0 where
  pub start : Starts s ray c
  pub index : (i : ℕ) → i < image s → IsIndex (eps s) (medium_at s i) s.wave (c.glass_index (owner s i))
  pub transfer : (i : ℕ) → i < j → Transfers s c i
  pub crossing : (i : ℕ) → i < j → Crosses s c i
  pub bending : (i : ℕ) → suc i < j → Bends s c i

-- it also leaves surface j by its law
pub record IsChainPast (s : Setup) (ray : Launch) (j : ℕ) (c : Chain) : Type 0 where
  pub reaches : IsChainTo s ray j c
  pub leaves : (i : ℕ) → suc i ≤ j → Bends s c i

-- to the image
abbrev pub IsWhole : Setup → Launch → Chain → Type 0
IsWhole s ray c = IsChainTo s ray (image s) c

-- a rim lets a point pass that isn't farther from the axis than the rim: a tie clears
abbrev pub IsInside : Bool → Option Decimal → Frac → Type 0
IsInside true (Some semi) rho = rho ≤Q value semi *Q value semi
IsInside true None rho = Unit {0}
IsInside false semi rho = Unit {0}

-- a chain clears surface j; a rim on the object clips nothing
abbrev pub Clears : Setup → Chain → ℕ → Type 0
Clears s c zero = Unit {0}
Clears s c (suc j) = IsInside (surface_at s (suc j)).rim (surface_at s (suc j)).semi (c.rho (suc j))

-- a chain clears every rim
abbrev pub ClearsAll : Setup → Chain → Type 0
ClearsAll s c = (j : ℕ) → j ≤ image s → Clears s c j
