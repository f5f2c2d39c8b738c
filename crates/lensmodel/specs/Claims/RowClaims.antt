-- What a row claims of every chain. Cited by the row of a ray and by the command trace.
use Rattle.std.specs.Prelude.{ℕ, suc, ◌≡◌, slice_get, Some}
use Rattle.fixdec.specs.Member.{IsMember}
use Rattle.lensmodel.specs.Equations.Chain.{Chain}
use Rattle.lensmodel.specs.Equations.Chains.{IsChainTo, IsChainPast, IsWhole, Clears, ClearsAll}
use Rattle.lensmodel.specs.declared.launch.Launch.{Launch}
use Rattle.lensmodel.specs.declared.row.Heading.{Heading}
use Rattle.lensmodel.specs.declared.row.Place.{Place}
use Rattle.lensmodel.specs.declared.row.Row.{Row}
use Rattle.lensmodel.specs.declared.row.Word.{Word}
use Rattle.lensmodel.specs.declared.row.Word.TheVariants.{Passes, Vignetted, Outside, Tir, Undecided, Wide, Lost}
use Rattle.lensmodel.specs.declared.setup.Setup.{Setup}

-- a place holds where the chain crosses surface j
pub record HoldsPlace (scale : ℕ) (p : Place) (c : Chain) (j : ℕ) : Type 0 where
  pub rho : IsMember scale p.rho (c.rho j)
  pub x : IsMember scale p.x (c.x j)
  pub y : IsMember scale p.y (c.y j)
  pub z : IsMember scale p.z (c.z j)
  pub path : IsMember scale p.path (c.path j)

-- a heading holds how the chain leaves surface j
pub record HoldsHeading (scale : ℕ) (h : Heading) (c : Chain) (j : ℕ) : Type 0 where
  pub l : IsMember scale h.l (c.l j)
  pub m : IsMember scale h.m (c.m j)
  pub n : IsMember scale h.n (c.n j)

-- every chain to surface j lies in place j of the row, which is the place counted from 1, and every chain that leaves it
-- in its heading
pub record HoldsAt (s : Setup) (ray : Launch) (row : Row) (j : ℕ) (p : Place) : Type 0 where
  pub place : (c : Chain) → IsChainTo s ray (suc j) c → HoldsPlace row.scale p c (suc j)
  pub heading : (h : Heading) → p.heading ≡ Some h → (c : Chain) → IsChainPast s ray (suc j) c → HoldsHeading row.scale h c (suc j)

abbrev pub Encloses : Setup → Launch → Row → Type 0
Encloses s ray row = (j : ℕ) (p : Place) → slice_get row.places.items j ≡ Some p → HoldsAt s ray row j p

-- what a word says of every chain; wide, undecided and lost say nothing of chains
abbrev pub WordHolds : Word → Setup → Launch → Type 0
WordHolds Passes s ray = (c : Chain) → IsWhole s ray c → ClearsAll s c
WordHolds (Vignetted j) s ray = (c : Chain) → IsChainTo s ray j c → Clears s c j → ⊥
WordHolds (Outside j) s ray = (c : Chain) → IsChainTo s ray j c → ⊥
WordHolds (Tir j) s ray = (c : Chain) → IsChainPast s ray j c → ⊥
WordHolds (Undecided j rho rim2) s ray = Unit {0}
WordHolds Wide s ray = Unit {0}
WordHolds (Lost j why) s ray = Unit {0}

-- the headline for one ray: the printed intervals hold every chain, and the word holds
pub record RowHolds (s : Setup) (ray : Launch) (row : Row) : Type 0 where
  pub encloses : Encloses s ray row
  pub word : WordHolds row.word s ray
