-- A well-formed setup has at least three surfaces, and its stop is one of them.
use Rattle.std.proofs.Common.{◌≡◌, ◌<◌, ◌≤◌, Bool, true, false, List, ◌∷◌, length, refl}
use borrow.Author.Tests.{ltb-true, ltb-false}
use Rattle.std.specs.Prelude.{Option, Some, None, nat_lt, not, drop, ◌-◌}
use Rattle.lensmodel.specs.Files.Causes.{fault_if, first_fault}
use Rattle.lensmodel.specs.Setup.Values.{surface_at}
use Rattle.lensmodel.specs.Setup.WellFormed.{IsWellFormed}
use Rattle.lensmodel.specs.Setup.WholeFaults.{whole_fault, faults_from}
use Rattle.lensmodel.specs.declared.fault.ZmxFault.TheVariants.{TooFewSurfaces, StopCount, MirrorAtObject}
use Rattle.lensmodel.specs.declared.setup.Setup.{Setup}

not_faulty : {F : Type 0} (b : Bool) (f : F) (xs : List (Option F)) → first_fault (fault_if b f ∷ xs) ≡ None → b ≡ false
not_faulty true f xs h = cc
not_faulty false f xs h = refl

later : {F : Type 0} (x : Option F) (xs : List (Option F)) → first_fault (x ∷ xs) ≡ None → first_fault xs ≡ None
later None xs h = h
later (Some f) xs h = cc

not_false : (b : Bool) → not b ≡ false → b ≡ true
not_false true h = refl
not_false false h = cc

pub well_count : (s : Setup) → IsWellFormed s → 3 ≤ length s.lens.surfaces.items
unfolding whole_fault
well_count s w =
    let fs = s.lens.surfaces.items in
    let later = faults_from (length fs - 1) 1 (drop 1 fs) in
    let mirror = fault_if (surface_at s 0).mirror MirrorAtObject in
    let stop = fault_if (not (nat_lt s.lens.stop (length fs))) StopCount in
    ltb-false (length fs) 3 (not_faulty (nat_lt (length fs) 3) TooFewSurfaces (stop ∷ mirror ∷ later) w.lens.whole)

pub well_stop : (s : Setup) → IsWellFormed s → s.lens.stop < length s.lens.surfaces.items
unfolding whole_fault
well_stop s w =
    let fs = s.lens.surfaces.items in
    let rest = faults_from (length fs - 1) 1 (drop 1 fs) in
    let mirror = fault_if (surface_at s 0).mirror MirrorAtObject in
    let outside = not (nat_lt s.lens.stop (length fs)) in
    let few = fault_if (nat_lt (length fs) 3) TooFewSurfaces in
    let h = later few (fault_if outside StopCount ∷ mirror ∷ rest) w.lens.whole in
    ltb-true s.lens.stop (length fs) (not_false (nat_lt s.lens.stop (length fs)) (not_faulty outside StopCount (mirror ∷ rest) h))
