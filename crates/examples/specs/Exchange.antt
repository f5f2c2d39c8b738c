-- Chains with equal fractions, and the lens within its box, as statements.
use Rattle.std.specs.Prelude.{◌≡◌, ℕ, pos, negsuc, ◌≤◌, false, None}
use Rattle.fixdec.specs.Frac.{◌≈◌, ◌≤Q◌, whole}
use Rattle.fixdec.specs.Member.{Symbols}
use Rattle.fixdec.specs.Algebra.OrderLaws.{zero_le_one}
use Rattle.lensmodel.specs.Equations.Chain.{Chain, index_behind}
use Rattle.lensmodel.specs.Equations.Chains.{IsChainTo, IsChainPast, Clears}
use Rattle.lensmodel.specs.Setup.Media.{equal_media, has_tolerance}
use Rattle.lensmodel.specs.Setup.Values.{curvature, distance, tolerances}
use Rattle.lensmodel.specs.declared.launch.Launch.{Launch}
use Rattle.lensmodel.specs.declared.setup.Setup.{Setup}
use Rattle.lensmodel.specs.declared.tolerance.TolKind.TheVariants.{Indx}

-- two chains have equal fractions at surface i, however they are written
pub record IsSameAt (a b : Chain) (i : ℕ) : Type 0 where
  pub x : a.x i ≈ b.x i
  pub y : a.y i ≈ b.y i
  pub z : a.z i ≈ b.z i
  pub path : a.path i ≈ b.path i
  pub rho : a.rho i ≈ b.rho i
  pub conic_sag : a.conic_sag i ≈ b.conic_sag i
  pub w : a.w i ≈ b.w i
  pub l : a.l i ≈ b.l i
  pub m : a.m i ≈ b.m i
  pub n : a.n i ≈ b.n i

-- two chains have equal symbols and indices, and equal fractions up to surface j
pub record IsSameUpTo (j : ℕ) (a b : Chain) : Type 0 where
  pub symbols : (i : ℕ) → a.symbols.at i ≈ b.symbols.at i
  pub glass_index : (i : ℕ) → a.glass_index i ≈ b.glass_index i
  pub places : (i : ℕ) → i ≤ j → IsSameAt a b i

-- what is a chain to a surface doesn't depend on how its fractions are written, nor on those past the surface
abbrev pub ReachesAlike : Type 0
ReachesAlike = (s : Setup) (ray : Launch) (j : ℕ) (a b : Chain) → IsSameUpTo j a b → IsChainTo s ray j a → IsChainTo s ray j b

abbrev pub LeavesAlike : Type 0
LeavesAlike = (s : Setup) (ray : Launch) (j : ℕ) (a b : Chain) → IsSameUpTo j a b → IsChainPast s ray j a → IsChainPast s ray j b

-- nor does what clears a surface
abbrev pub ClearsAlike : Type 0
ClearsAlike = (s : Setup) (j : ℕ) (a b : Chain) → IsSameUpTo j a b → Clears s a j → Clears s b j

-- the setup without its box
abbrev pub without_box : Setup → Setup
without_box s = record s { toler = None }

-- every symbol is 0
abbrev pub IsAtRest : Symbols → Type 0
IsAtRest symbols = (i : ℕ) → symbols.at i ≈ whole (pos 0)

pub minus_one_below_zero : whole (negsuc 0) ≤Q whole (pos 0)
unfolding whole
minus_one_below_zero = record { cross = record { le = tt } }

-- the symbols that are all 0
abbrev pub at_rest : Symbols
at_rest = record { at = λ i. whole (pos 0); low = λ i. minus_one_below_zero; high = λ i. zero_le_one }

abbrev pub RestIsRest : Type 0
RestIsRest = IsAtRest at_rest

-- with every symbol 0 a curvature, a distance and an index are those of the setup without its box
abbrev pub CurvatureAtRest : Type 0
CurvatureAtRest = (s : Setup) (symbols others : Symbols) (j : ℕ) → IsAtRest symbols → curvature s symbols j ≈ curvature (without_box s) others j

abbrev pub DistanceAtRest : Type 0
DistanceAtRest = (s : Setup) (symbols others : Symbols) (j : ℕ) → IsAtRest symbols → distance s symbols j ≈ distance (without_box s) others j

abbrev pub IndexAtRest : Type 0
IndexAtRest = (s : Setup) (c : Chain) (j : ℕ) → IsAtRest c.symbols → index_behind s c j ≈ index_behind (without_box s) c j

-- the box leaves each surface between equal media where it was: no tolerance on index stands on a medium that it parts from
-- itself
abbrev pub KeepsMedia : Setup → Type 0
KeepsMedia s = (j : ℕ) → equal_media s j ≡ equal_media (without_box s) j

-- a box without a tolerance on index does
abbrev pub IndexFreeKeeps : Type 0
IndexFreeKeeps = (s : Setup) → ((j : ℕ) → has_tolerance (tolerances s.toler) Indx j ≡ false) → KeepsMedia s

-- a chain of the lens without its box is, with every symbol 0, a chain of the lens with it
abbrev pub BoxHoldsLens : Type 0
BoxHoldsLens = (s : Setup) (ray : Launch) (j : ℕ) (c : Chain) (rest : Symbols) → KeepsMedia s → IsAtRest rest
    → IsChainTo (without_box s) ray j c → IsChainTo s ray j (record c { symbols = rest })

-- and a chain of the lens with its box whose symbols are 0 is one of the lens without it
abbrev pub LensAtRest : Type 0
LensAtRest = (s : Setup) (ray : Launch) (j : ℕ) (c : Chain) → KeepsMedia s → IsAtRest c.symbols
    → IsChainTo s ray j c → IsChainTo (without_box s) ray j c
