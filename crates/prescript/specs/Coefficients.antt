-- The coefficients of an even asphere that are too great. Cited by the search for the first of them.
use Rattle.std.specs.Prelude.{ℕ, zero, suc, List, [], ◌∷◌, Option}
use Rattle.lensmodel.specs.Files.Causes.{fault_if}
use Rattle.lensmodel.specs.Setup.WholeFaults.{is_great}
use Rattle.lensmodel.specs.Setup.Zones.{scaled_coefficient}
use Rattle.lensmodel.specs.declared.fault.ZmxFault.{ZmxFault}
use Rattle.lensmodel.specs.declared.fault.ZmxFault.TheVariants.{Coefficient}
use Rattle.lensmodel.specs.declared.surface.Surface.{Surface}

-- the faults of n coefficients from b_i on, on surface j
unfoldable pub faults_from : ℕ → Surface → ℕ → ℕ → List (Option ZmxFault)
faults_from j f zero i = []
faults_from j f (suc n) i = fault_if (is_great (scaled_coefficient f i)) (Coefficient j i) ∷ faults_from j f n (suc i)
