-- What a well-formed setup gives to the preparation of a surface.
use Rattle.std.proofs.Common.{◌≡◌, ℕ, zero, suc, ◌-◌, ◌<◌, ◌≤◌, Bool, true, false, List, [], ◌∷◌, ◌++◌, length, get_or, refl, arith}
use Rattle.std.specs.Prelude.{Option, Some, None, is_none, not, ◌&&◌, nat_eq, nat_lt, map, if◌then◌else◌}
use Rattle.std.proofs.lemmas.List.Elements.{All-get_or}
use Rattle.fixdec.specs.Decimal.{Decimal}
use Rattle.fixdec.specs.Zone.{zone_span}
use Rattle.lensmodel.specs.Equations.Dispersion.{IsKnown}
use Rattle.lensmodel.specs.Files.Causes.{fault_if, first_fault}
use Rattle.lensmodel.specs.Setup.Media.{medium_at}
use Rattle.lensmodel.specs.Setup.Values.{surface_at, image, owner, reflects, plane}
use Rattle.lensmodel.specs.Setup.WellFormed.{IsWellFormed}
use Rattle.lensmodel.specs.Setup.WholeFaults.{whole_fault, whole_faults, faults_from, surface_faults, asphere_faults, is_great}
use Rattle.lensmodel.specs.Setup.Zones.{zone_if, scaled_coefficient}
use Rattle.lensmodel.specs.declared.fault.ZmxFault.{ZmxFault}
use Rattle.lensmodel.specs.declared.fault.ZmxFault.TheVariants.{TooFewSurfaces, StopCount, MirrorAtObject, InnerInfinity, NoZone, Coefficient}
use Rattle.lensmodel.specs.declared.glass.Medium.TheVariants.{Air}
use Rattle.lensmodel.specs.declared.setup.Setup.{Setup}
use Rattle.lensmodel.specs.declared.surface.Surface.{Surface}
use Rattle.lensmodel.specs.declared.surface.SurfaceKind.{SurfaceKind}
use Rattle.lensmodel.specs.declared.surface.SurfaceKind.TheVariants.{Standard, EvenAsph}

-- an even asphere has a semi-diameter with a zone
abbrev pub IsZonedBy : SurfaceKind → Option Decimal → Type 0
IsZonedBy Standard semi = Unit {0}
IsZonedBy EvenAsph None = ⊥
IsZonedBy EvenAsph (Some semi) = is_none (zone_span semi) ≡ false

abbrev pub IsZoned : Surface → Type 0
IsZoned f = IsZonedBy f.kind f.semi

-- ---- where no fault stands
no_fault_left : {F : Type 0} (x : Option F) (xs : List (Option F)) → first_fault (x ∷ xs) ≡ None → first_fault xs ≡ None
no_fault_left None xs h = h
no_fault_left (Some f) xs h = cc

no_fault_front : {F : Type 0} (xs ys : List (Option F)) → first_fault (xs ++ ys) ≡ None → first_fault xs ≡ None
no_fault_front [] ys h = refl
no_fault_front (None ∷ xs) ys h = no_fault_front xs ys h
no_fault_front (Some f ∷ xs) ys h = cc

no_fault_back : {F : Type 0} (xs ys : List (Option F)) → first_fault (xs ++ ys) ≡ None → first_fault ys ≡ None
no_fault_back [] ys h = h
no_fault_back (None ∷ xs) ys h = no_fault_back xs ys h
no_fault_back (Some f ∷ xs) ys h = cc

not_faulty : {F : Type 0} (b : Bool) (f : F) (xs : List (Option F)) → first_fault (fault_if b f ∷ xs) ≡ None → b ≡ false
not_faulty true f xs h = cc
not_faulty false f xs h = refl

zoned_by : (kind : SurfaceKind) (semi : Option Decimal) (f : ZmxFault) (xs : List (Option ZmxFault))
    → first_fault (fault_if (is_none (zone_if semi)) f ∷ xs) ≡ None → IsZonedBy kind semi
zoned_by Standard semi f xs h = tt
zoned_by EvenAsph None f xs h = cc
zoned_by EvenAsph (Some d) f xs h = not_faulty (is_none (zone_span d)) f xs h

-- coefficients that are too great
abbrev coefficient_faults : ℕ → Surface → List (Option ZmxFault)
coefficient_faults j f = map (λ i. fault_if (is_great (scaled_coefficient f i)) (Coefficient j i)) (1 ∷ 2 ∷ 3 ∷ 4 ∷ 5 ∷ 6 ∷ 7 ∷ 8 ∷ [])

zoned_kind : (kind : SurfaceKind) (j : ℕ) (f : Surface) → first_fault (asphere_faults kind j f) ≡ None → IsZonedBy kind f.semi
zoned_kind Standard j f h = tt
zoned_kind EvenAsph j f h = zoned_by EvenAsph f.semi (NoZone j) (coefficient_faults j f) h

-- an infinite thickness before the image
abbrev thickness_fault : ℕ → ℕ → Surface → Option ZmxFault
thickness_fault image j f = fault_if (is_none f.thick && not (nat_eq j image)) (InnerInfinity j)

zoned_at : (image j : ℕ) (fs : List Surface) (k : ℕ) → k < length fs → first_fault (faults_from image j fs) ≡ None → IsZoned (get_or fs k plane)
zoned_at image j [] k l h = absurd (omega arith)
zoned_at image j (f ∷ fs) zero l h =
    zoned_kind f.kind j f (no_fault_left (thickness_fault image j f) (asphere_faults f.kind j f) (no_fault_front (surface_faults image j f) (faults_from image (suc j) fs) h))
zoned_at image j (f ∷ fs) (suc k) l h =
    zoned_at image (suc j) fs k (omega arith) (no_fault_back (surface_faults image j f) (faults_from image (suc j) fs) h)

zoned_in : (fs : List Surface) (stop j : ℕ) → suc j < length fs → first_fault (whole_faults fs stop) ≡ None → IsZoned (get_or fs (suc j) plane)
zoned_in [] stop j l h = absurd (omega arith)
zoned_in (f ∷ fs) stop j l h =
    let few : Option ZmxFault = fault_if (nat_lt (length (f ∷ fs)) 3) TooFewSurfaces in
    let count : Option ZmxFault = fault_if (not (nat_lt stop (length (f ∷ fs)))) StopCount in
    let mirror : Option ZmxFault = fault_if f.mirror MirrorAtObject in
    let rest : List (Option ZmxFault) = faults_from (length (f ∷ fs) - 1) 1 fs in
    zoned_at (length (f ∷ fs) - 1) 1 fs j (omega arith)
    (no_fault_left mirror rest (no_fault_left count (mirror ∷ rest) (no_fault_left few (count ∷ mirror ∷ rest) h)))

-- surface j + 1 of a well-formed setup, if it is an even asphere, has a zone
pub well_zoned : (s : Setup) (j : ℕ) → IsWellFormed s → suc j < length s.lens.surfaces.items → IsZoned (surface_at s (suc j))
unfolding whole_fault
well_zoned s j w l = zoned_in s.lens.surfaces.items s.lens.stop j l w.lens.whole

-- ---- media
owner_next : (b : Bool) (i j : ℕ) → i ≤ j → (if b then i else suc j) ≤ suc j
owner_next true i j h = omega arith
owner_next false i j h = omega arith

pub owner_before : (s : Setup) (j : ℕ) → owner s j ≤ j
owner_before s zero = omega arith
owner_before s (suc j) = owner_next (reflects s (suc j)) (owner s j) j (owner_before s j)

-- the medium behind a surface before the image is air or a glass whose formula is used
pub well_known : (s : Setup) (j : ℕ) → IsWellFormed s → j < image s → IsKnown (medium_at s j)
well_known s j w l =
    let b = owner_before s j in
    let n = w.media.count in
    All-get_or IsKnown s.media.items (owner s j) Air (omega arith) w.media.known
