-- What every prepared surface keeps.
use Rattle.std.specs.Prelude.{pos, ◌≤ℤ◌, Option, Some, None}
use Rattle.fixdec.specs.Ends.{Ends}
use Rattle.lensmodel.specs.declared.surface.SurfaceKind.{SurfaceKind}
use Rattle.lensmodel.specs.declared.surface.SurfaceKind.TheVariants.{Standard, EvenAsph}

-- an even asphere has the square of a zone, whose greatest value isn't below 0; a standard surface has none
abbrev pub HasZone : {A : Type 0} → (A → Ends) → SurfaceKind → Option A → Type 0
HasZone hull Standard None = Unit {0}
HasZone hull Standard (Some zone2) = ⊥
HasZone hull EvenAsph None = ⊥
HasZone hull EvenAsph (Some zone2) = pos 0 ≤ℤ (hull zone2).hi
