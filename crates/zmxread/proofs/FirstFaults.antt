-- The first fault of surfaces, taken one by one.
use Rattle.std.specs.Prelude.{◌≡◌, ℕ, zero, suc, ◌<◌, true, false, is_some, List, [], ◌∷◌, ◌++◌, length, drop, slice_index_or, Option, Some, None, refl}
use Rattle.std.proofs.Common.{ap, sym, ◌∙◌, arith}
use Rattle.lensmodel.specs.Files.Causes.{first_fault, or_first}
use Rattle.lensmodel.specs.Setup.WholeFaults.{faults_from, surface_faults}
use Rattle.lensmodel.specs.declared.fault.ZmxFault.{ZmxFault}
use Rattle.lensmodel.specs.declared.surface.Surface.{Surface}

first_fault-append : (fs gs : List (Option ZmxFault)) → first_fault (fs ++ gs) ≡ or_first (first_fault fs) (first_fault gs)
first_fault-append [] gs = refl
first_fault-append (None ∷ fs) gs = first_fault-append fs gs
first_fault-append (Some f ∷ fs) gs = refl

drop-at : (j : ℕ) (xs : List Surface) (d : Surface) → j < length xs → drop j xs ≡ slice_index_or xs j d ∷ drop (suc j) xs
drop-at j [] d h = absurd (omega arith)
drop-at zero (x ∷ xs) d h = refl
drop-at (suc j) (x ∷ xs) d h = drop-at j xs d (omega arith)

-- the faults from surface j on, which is f
pub from-here : (image j : ℕ) (xs : List Surface) (f : Surface) → j < length xs → f ≡ slice_index_or xs j f
    → first_fault (faults_from image j (drop j xs)) ≡ or_first (first_fault (surface_faults image j f)) (first_fault (faults_from image (suc j) (drop (suc j) xs)))
from-here image j xs f h e =
    ap (λ fs. first_fault (faults_from image j fs)) (drop-at j xs f h ∙ ap (λ g. g ∷ drop (suc j) xs) (sym e))
    ∙ first_fault-append (surface_faults image j f) (faults_from image (suc j) (drop (suc j) xs))

pub first-some : (r o p : Option ZmxFault) → r ≡ o → is_some r ≡ true → or_first o p ≡ r
first-some r None p e h = cc
first-some r (Some f) p e h = sym e

pub first-none : (r o p : Option ZmxFault) → r ≡ o → is_some r ≡ false → or_first o p ≡ p
first-none r None p e h = refl
first-none r (Some f) p e h = cc
