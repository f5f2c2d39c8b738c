-- Units of bytes.
use Rattle.std.proofs.Common.{◌≡◌, Bool, true, false, ℕ, zero, suc, ◌+◌, ◌*◌, ◌/◌, ◌<◌, List, [], ◌∷◌, length, get_or, refl, ap, sym, ◌∙◌, arith}
use Rattle.std.specs.Prelude.{if◌then◌else◌, Result, Ok, Err, OnOk}
use Rattle.lensmodel.specs.Files.TextLines.{pairs}

pub length-pairs : (bytes : List ℕ) → length (pairs bytes) ≡ length bytes / 2
length-pairs [] = refl
length-pairs (low ∷ []) = refl
length-pairs (low ∷ high ∷ more) = omega (arith, length-pairs more)

pub get_or-pairs : (bytes : List ℕ) (k : ℕ) → k < length (pairs bytes) → get_or (pairs bytes) k 0 ≡ get_or bytes (2 * k) 0 + 256 * get_or bytes (2 * k + 1) 0
get_or-pairs [] k h = absurd (omega arith)
get_or-pairs (low ∷ []) k h = absurd (omega arith)
get_or-pairs (low ∷ high ∷ more) zero h = refl
get_or-pairs (low ∷ high ∷ more) (suc k) h =
    let a : 2 * suc k ≡ suc (suc (2 * k)) = omega arith in
    let b : 2 * suc k + 1 ≡ suc (suc (2 * k + 1)) = omega arith in
    get_or-pairs more k (omega arith)
    ∙ ap (λ (m : ℕ). get_or (low ∷ high ∷ more) m 0 + 256 * get_or more (2 * k + 1) 0) (sym a)
    ∙ ap (λ (m : ℕ). get_or (low ∷ high ∷ more) (2 * suc k) 0 + 256 * get_or (low ∷ high ∷ more) m 0) (sym b)

-- there are no more units than bytes
pub units_fit : (wide : Bool) (body : List ℕ) → length body < 4294967296 → length (if wide then pairs body else body) < 4294967296
units_fit true body h = omega (arith, length-pairs body)
units_fit false body h = h

pub on_ok_by : {T E X : Type 0} (r : Result T E) → X → OnOk r X
on_ok_by (Ok t) x = x
on_ok_by (Err e) x = tt
