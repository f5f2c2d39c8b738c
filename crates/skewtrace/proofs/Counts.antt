-- A well-formed setup has at least three surfaces.
use Rattle.std.proofs.Common.{◌≡◌, ℕ, suc, ◌<◌, ◌≤◌, Bool, true, false, List, ◌∷◌, length, refl, arith}
use borrow.Author.Tests.{ltb-false}
use Rattle.std.specs.Prelude.{Option, None, nat_lt, not, drop, ◌-◌}
use Rattle.lensmodel.specs.Files.Causes.{fault_if, first_fault}
use Rattle.lensmodel.specs.Setup.Values.{surface_at, image}
use Rattle.lensmodel.specs.Setup.WellFormed.{IsWellFormed}
use Rattle.lensmodel.specs.Setup.WholeFaults.{whole_fault, faults_from}
use Rattle.lensmodel.specs.declared.fault.ZmxFault.TheVariants.{TooFewSurfaces, StopCount, MirrorAtObject}
use Rattle.lensmodel.specs.declared.setup.Setup.{Setup}

not_faulty : {F : Type 0} (b : Bool) (f : F) (xs : List (Option F)) → first_fault (fault_if b f ∷ xs) ≡ None → b ≡ false
not_faulty true f xs h = cc
not_faulty false f xs h = refl

pub well_count : (s : Setup) → IsWellFormed s → 3 ≤ length s.lens.surfaces.items
unfolding whole_fault
well_count s w =
    let fs = s.lens.surfaces.items in
    let later = faults_from (length fs - 1) 1 (drop 1 fs) in
    let mirror = fault_if (surface_at s 0).mirror MirrorAtObject in
    let stop = fault_if (not (nat_lt s.lens.stop (length fs))) StopCount in
    ltb-false (length fs) 3 (not_faulty (nat_lt (length fs) 3) TooFewSurfaces (stop ∷ mirror ∷ later) w.lens.whole)

-- a loop over the surfaces from 1 on ends behind the image
pub behind_image : (s : Setup) (j end : ℕ) → IsWellFormed s → end ≡ length s.lens.surfaces.items → (1 ≤ end → j ≤ end) → end ≤ j → j ≡ suc (image s)
behind_image s j end w e up down =
    let n = well_count s w in
    let at_most : j ≤ end = up (omega arith) in
    omega arith

-- the place of a surface among those from 1 on
pub place_inside : (s : Setup) (k j end n : ℕ) → suc k ≤ j → j < end → end ≡ length s.lens.surfaces.items → n ≡ image s → j - 1 < n
place_inside s k j end n a b e f = omega arith

pub place_at_most : (s : Setup) (k j end n : ℕ) → suc k ≤ j → j < end → end ≡ length s.lens.surfaces.items → n ≡ image s → j - 1 ≤ n
place_at_most s k j end n a b e f = omega arith
