-- How many surfaces a lens without a whole fault has.
use Rattle.std.proofs.Common.{◌≡◌, ◌≤◌, Bool, true, false, List, ◌∷◌, length, get_or, drop, ◌-◌, refl, arith}
use Rattle.std.proofs.lemmas.Bool.Decides.{nat_tests}
use Rattle.std.specs.Prelude.{Option, None, nat_lt, not}
use Rattle.lensmodel.specs.Files.Causes.{fault_if, first_fault}
use Rattle.lensmodel.specs.Setup.WellFormed.{IsSound}
use Rattle.lensmodel.specs.Setup.WholeFaults.{whole_fault, faults_from}
use Rattle.lensmodel.specs.Setup.Values.{plane}
use Rattle.lensmodel.specs.declared.fault.ZmxFault.{ZmxFault}
use Rattle.lensmodel.specs.declared.fault.ZmxFault.TheVariants.{TooFewSurfaces, StopCount, MirrorAtObject}
use Rattle.lensmodel.specs.declared.prescription.Prescription.{Prescription}

not_first : {F : Type 0} (stands : Bool) (f : F) (more : List (Option F)) → first_fault (fault_if stands f ∷ more) ≡ None → stands ≡ false
not_first true f more h = cc
not_first false f more h = refl

-- at least three
pub surfaces-length : (lens : Prescription) → IsSound lens → 3 ≤ length lens.surfaces.items
unfolding whole_fault
surfaces-length lens h =
    let fs = lens.surfaces.items in
    let more : List (Option ZmxFault) = fault_if (not (nat_lt lens.stop (length fs))) StopCount ∷ fault_if (get_or fs 0 plane).mirror MirrorAtObject ∷ faults_from (length fs - 1) 1 (drop 1 fs) in
    let e : nat_lt (length fs) 3 ≡ false = not_first (nat_lt (length fs) 3) TooFewSurfaces more h.whole in
    grind (arith, nat_tests)
