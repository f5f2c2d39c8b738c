-- Laws of chains, as statements.
use Rattle.std.specs.Prelude.{◌≡◌, ℕ, suc, ◌<◌, ◌≤◌, ◌↔◌, not, neg_ℤ, None, IsTrue}
use Rattle.fixdec.specs.Decimal.{value}
use Rattle.fixdec.specs.Frac.{◌≈◌}
use Rattle.fixdec.specs.Member.{Symbols}
use Rattle.lensmodel.specs.Equations.Bending.{Stays}
use Rattle.lensmodel.specs.Equations.Chain.{Chain, index_behind}
use Rattle.lensmodel.specs.Equations.Chains.{IsChainTo, IsChainPast, IsWhole, ClearsAll}
use Rattle.lensmodel.specs.Claims.RowClaims.{WordHolds}
use Rattle.lensmodel.specs.Equations.Crossing.{Transfers, Crosses}
use Rattle.lensmodel.specs.Setup.Media.{medium_at, equal_media}
use Rattle.lensmodel.specs.Setup.Values.{surface_at, image, reflects, owner, travel, curvature, distance, written_thickness}
use Rattle.lensmodel.specs.declared.launch.Launch.{Launch}
use Rattle.lensmodel.specs.declared.row.Word.TheVariants.{Vignetted, Outside, Tir}
use Rattle.lensmodel.specs.declared.setup.Setup.{Setup}

-- a chain to a surface is a chain to each surface before it
abbrev pub ReachesBefore : Type 0
ReachesBefore = (s : Setup) (ray : Launch) (c : Chain) (i j : ℕ) → i ≤ j → IsChainTo s ray j c → IsChainTo s ray i c

-- a chain to a surface leaves each surface before it
abbrev pub LeavesBefore : Type 0
LeavesBefore = (s : Setup) (ray : Launch) (c : Chain) (i j : ℕ) → i < j → IsChainTo s ray j c → IsChainPast s ray i c

-- a whole chain reaches every surface
abbrev pub WholeReaches : Type 0
WholeReaches = (s : Setup) (ray : Launch) (c : Chain) (j : ℕ) → j ≤ image s → IsWhole s ray c → IsChainTo s ray j c

-- a whole chain leaves every surface before the image
abbrev pub WholeLeaves : Type 0
WholeLeaves = (s : Setup) (ray : Launch) (c : Chain) (j : ℕ) → j < image s → IsWhole s ray c → IsChainPast s ray j c

-- what leaves a surface, and goes straight to the next and crosses it, is a chain to the next
abbrev pub ReachesNext : Type 0
ReachesNext = (s : Setup) (ray : Launch) (c : Chain) (j : ℕ) → IsChainPast s ray j c → Transfers s c j → Crosses s c j
    → IsChainTo s ray (suc j) c

-- without a box a curvature is the written decimal, whatever the symbols
abbrev pub CurvatureWritten : Type 0
CurvatureWritten = (s : Setup) (symbols : Symbols) (j : ℕ) → s.toler ≡ None → curvature s symbols j ≈ value (surface_at s j).curv

-- without a box a distance is the written thickness, whatever the symbols
abbrev pub DistanceWritten : Type 0
DistanceWritten = (s : Setup) (symbols : Symbols) (j : ℕ) → s.toler ≡ None
    → distance s symbols (suc j) ≈ written_thickness (surface_at s (suc j)).thick

-- without a box the index behind a surface is that of its medium's glass, whatever the symbols
abbrev pub IndexWritten : Type 0
IndexWritten = (s : Setup) (c : Chain) (j : ℕ) → s.toler ≡ None → index_behind s c j ≈ c.glass_index (owner s j)

-- between equal media the direction stays
abbrev pub DirectionStays : Type 0
DirectionStays = (s : Setup) (ray : Launch) (c : Chain) (j : ℕ) → IsTrue (equal_media s j) → IsChainPast s ray (suc j) c → Stays c j

-- a mirror before the image turns the sign of travel, and nothing else does
abbrev pub TurnsAtMirrors : Type 0
TurnsAtMirrors = (s : Setup) (j : ℕ) → (travel s (suc j) ≡ neg_ℤ (travel s j)) ↔ IsTrue (reflects s (suc j))

-- the sign of travel stays elsewhere, and only there
abbrev pub StaysElsewhere : Type 0
StaysElsewhere = (s : Setup) (j : ℕ) → (travel s (suc j) ≡ travel s j) ↔ IsTrue (not (reflects s (suc j)))

-- behind a mirror is the medium before it
abbrev pub MirrorsKeepMedium : Type 0
MirrorsKeepMedium = (s : Setup) (j : ℕ) → IsTrue (reflects s (suc j)) → medium_at s (suc j) ≡ medium_at s j

-- with the same index
abbrev pub MirrorsKeepIndex : Type 0
MirrorsKeepIndex = (s : Setup) (c : Chain) (j : ℕ) → IsTrue (reflects s (suc j)) → index_behind s c (suc j) ≡ index_behind s c j

-- where no chain clears surface j, no whole chain clears every rim
abbrev pub VignettedExcludes : Type 0
VignettedExcludes = (s : Setup) (ray : Launch) (j : ℕ) → j ≤ image s → WordHolds (Vignetted j) s ray
    → (c : Chain) → IsWhole s ray c → ClearsAll s c → ⊥

-- where no chain reaches surface j, there is no whole chain
abbrev pub OutsideExcludes : Type 0
OutsideExcludes = (s : Setup) (ray : Launch) (j : ℕ) → j ≤ image s → WordHolds (Outside j) s ray → (c : Chain) → IsWhole s ray c → ⊥

-- where no chain leaves a surface before the image, there is no whole chain
abbrev pub TirExcludes : Type 0
TirExcludes = (s : Setup) (ray : Launch) (j : ℕ) → j < image s → WordHolds (Tir j) s ray → (c : Chain) → IsWhole s ray c → ⊥
