-- What is wrong with a prescription as a whole. Cited by the reader of lens files and by well-formed setups.
use Rattle.std.specs.Prelude.{ℕ, suc, ◌-◌, pos, Bool, ◌&&◌, nat_eq, nat_lt, not, List, [], ◌∷◌, ◌++◌, length, drop, map, slice_index_or, Option, is_none}
use Rattle.fixdec.specs.Decimal.{Decimal, value}
use Rattle.fixdec.specs.Frac.{size, whole}
use Rattle.lensmodel.specs.Files.Causes.{fault_if, first_fault}
use Rattle.lensmodel.specs.Setup.Comparison.{is_below}
use Rattle.lensmodel.specs.Setup.Values.{plane}
use Rattle.lensmodel.specs.Setup.Zones.{surface_zone, scaled_coefficient}
use Rattle.lensmodel.specs.declared.fault.ZmxFault.{ZmxFault}
use Rattle.lensmodel.specs.declared.fault.ZmxFault.TheVariants.{TooFewSurfaces, StopCount, MirrorAtObject, InnerInfinity, NoZone, Coefficient}
use Rattle.lensmodel.specs.declared.prescription.Prescription.{Prescription}
use Rattle.lensmodel.specs.declared.surface.Surface.{Surface}
use Rattle.lensmodel.specs.declared.surface.SurfaceKind.{SurfaceKind}
use Rattle.lensmodel.specs.declared.surface.SurfaceKind.TheVariants.{Standard, EvenAsph}

-- whether a coefficient is above 10^9 in size
abbrev pub is_great : Decimal → Bool
is_great b = is_below (whole (pos 1_000_000_000)) (size (value b))

-- an even asphere has a zone, and coefficients at most 10^9 in size once they are brought to it
abbrev pub asphere_faults : SurfaceKind → ℕ → Surface → List (Option ZmxFault)
asphere_faults Standard j f = []
asphere_faults EvenAsph j f =
    fault_if (is_none (surface_zone f)) (NoZone j)
    ∷ map (λ i. fault_if (is_great (scaled_coefficient f i)) (Coefficient j i)) (1 ∷ 2 ∷ 3 ∷ 4 ∷ 5 ∷ 6 ∷ 7 ∷ 8 ∷ [])

-- surface j has a finite thickness, unless it is the image
abbrev pub surface_faults : ℕ → ℕ → Surface → List (Option ZmxFault)
surface_faults image j f =
    fault_if (is_none f.thick && not (nat_eq j image)) (InnerInfinity j) ∷ asphere_faults f.kind j f

-- surface by surface, from surface j on
abbrev pub faults_from : ℕ → ℕ → List Surface → List (Option ZmxFault)
faults_from image j [] = []
faults_from image j (f ∷ more) = surface_faults image j f ++ faults_from image (suc j) more

-- at least three surfaces, one of them the stop, an object that isn't a mirror; then the surfaces from 1 on
abbrev pub whole_faults : List Surface → ℕ → List (Option ZmxFault)
whole_faults surfaces stop =
    fault_if (nat_lt (length surfaces) 3) TooFewSurfaces
    ∷ fault_if (not (nat_lt stop (length surfaces))) StopCount
    ∷ fault_if (slice_index_or surfaces 0 plane).mirror MirrorAtObject
    ∷ faults_from (length surfaces - 1) 1 (drop 1 surfaces)

-- the first whole fault of a prescription, if it has one. A lens file in which not exactly one surface is marked as the
-- stop has no stop below the count of its surfaces
unfoldable pub whole_fault : Prescription → Option ZmxFault
whole_fault lens = first_fault (whole_faults lens.surfaces.items lens.stop)
