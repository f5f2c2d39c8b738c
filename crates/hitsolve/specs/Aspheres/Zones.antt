-- The zone of an even asphere in a well-formed setup: its square is at most the power of ten that it is brought to.
use Rattle.std.proofs.Common.{◌≡◌, ℕ, zero, suc, ◌+◌, ◌*◌, ◌≤◌, ◌<◌, ◌^◌, refl, sym, subst, ap, ◌∙◌, true, false, Bool, arith, inl, inr, List, [], ◌∷◌, ◌++◌, add-zero}
use Rattle.std.proofs.Math.Nat.{mul-le-mul}
use Rattle.std.proofs.lemmas.Bool.{cases_lt, le-leb, lt-leb}
use Rattle.std.proofs.lemmas.Int.{ints}
use Rattle.std.specs.Prelude.{ℤ, pos, negsuc, ◌*ℤ◌, ◌-ℤ◌, ◌≤ℤ◌, ◌<ℤ◌, unsigned_abs, Option, Some, None, is_none, slice_index_or, int_lt, int_le, ◌&&◌, if◌then◌else◌, ◌-◌, length}
use Rattle.fixdec.specs.Algebra.FracLaws.{≈_sym}
use Rattle.fixdec.specs.Algebra.Order.{cancel_Q, le_of_same, le_trans, le_whole, le_whole_out}
use Rattle.fixdec.specs.Algebra.OrderLaws.{mul_nn}
use Rattle.fixdec.specs.Algebra.MemberLaws.{units_nn}
use Rattle.fixdec.specs.Algebra.PowerLaws.{dec_ceil_is, ten_power_is}
use Rattle.fixdec.specs.Algebra.Terms.{is, is_mul, is_whole, same_if}
use Rattle.fixdec.specs.Decimal.{Decimal, ten_power}
use Rattle.fixdec.specs.Ends.{Ends}
use Rattle.fixdec.specs.Frac.{◌≈◌, ◌≤Q◌, ◌*Q◌, whole}
use Rattle.fixdec.specs.Zone.{least_power, nano, norm, times_1_1, zone, zone_span}
use Rattle.lensmodel.specs.Equations.Crossing.{zone_of}
use Rattle.lensmodel.specs.Files.Causes.{fault_if, first_fault}
use Rattle.lensmodel.specs.Setup.Values.{surface_at, plane}
use Rattle.lensmodel.specs.Setup.WellFormed.{IsWellFormed}
use Rattle.lensmodel.specs.Setup.WholeFaults.{asphere_faults, surface_faults, faults_from, whole_fault, whole_faults}
use Rattle.lensmodel.specs.Setup.Zones.{surface_zone, norm_by, zone_if}
use Rattle.lensmodel.specs.declared.fault.ZmxFault.TheVariants.{NoZone}
use Rattle.lensmodel.specs.declared.setup.Setup.{Setup}
use Rattle.lensmodel.specs.declared.surface.Surface.{Surface}
use Rattle.lensmodel.specs.declared.surface.SurfaceKind.{SurfaceKind}
use Rattle.lensmodel.specs.declared.surface.SurfaceKind.TheVariants.{EvenAsph}
use Rattle.hitsolve.specs.Aspheres.Chains.{ZoneFits}
use Rattle.hitsolve.specs.Aspheres.Powers.{power_nn}

-- ---- no fault
-- each is none, where the first that is there is none
abbrev AreNone : {F : Type 0} → List (Option F) → Type 0
AreNone [] = Unit {0}
AreNone (a ∷ more) = (a ≡ None) × AreNone more

all_none : {F : Type 0} (xs : List (Option F)) → first_fault xs ≡ None → AreNone xs
all_none [] h = tt
all_none (None ∷ more) h = (refl, all_none more h)
all_none (Some x ∷ more) h = absurd (grind arith)

no_append : {F : Type 0} (xs ys : List (Option F)) → first_fault (xs ++ ys) ≡ None → (first_fault xs ≡ None) × (first_fault ys ≡ None)
no_append [] ys h = (refl, h)
no_append (None ∷ xs) ys h = no_append xs ys h
no_append (Some x ∷ xs) ys h = absurd (grind arith)

none_all : {F : Type 0} (xs : List (Option F)) → AreNone xs → first_fault xs ≡ None
none_all [] h = refl
none_all (None ∷ more) h = none_all more h.1
none_all (Some x ∷ more) h = h.0

stands_not : {F : Type 0} (b : Bool) (x : F) → fault_if b x ≡ None → b ≡ false
stands_not true x h = absurd (grind arith)
stands_not false x h = refl

-- an even asphere among surfaces without a fault has a zone
has_zone : (image j : ℕ) (f : Surface) → f.kind ≡ EvenAsph → first_fault (surface_faults image j f) ≡ None → is_none (surface_zone f) ≡ false
has_zone image j f e h =
    let mine : AreNone (asphere_faults EvenAsph j f) = subst (λ (k : SurfaceKind). AreNone (asphere_faults k j f)) e (all_none (surface_faults image j f) h).1 in
    stands_not (is_none (surface_zone f)) (NoZone j) mine.0

zone_in : (fs : List Surface) (image j i : ℕ) → first_fault (faults_from image j fs) ≡ None → (slice_index_or fs i plane).kind ≡ EvenAsph → is_none (surface_zone (slice_index_or fs i plane)) ≡ false
zone_in [] image j i h e = absurd (grind arith)
zone_in (f ∷ fs) image j zero h e = has_zone image j f e (no_append (surface_faults image j f) (faults_from image (suc j) fs) h).0
zone_in (f ∷ fs) image j (suc i) h e = zone_in fs image (suc j) i (no_append (surface_faults image j f) (faults_from image (suc j) fs) h).1 e

-- ---- the power of ten is enough
power_found : (z n k : ℕ) → z * z ≤ 10 ^ k → least_power z n k ≡ k
unfolding least_power
power_found z zero k h = refl
power_found z (suc n) k h = rw (le-leb (z * z) (10 ^ k) h)

power_next : (z n k : ℕ) → 10 ^ k < z * z → least_power z (suc n) k ≡ least_power z n (k + 1)
unfolding least_power
power_next z n k h = rw (lt-leb (z * z) (10 ^ k) h)

power_last : (z k : ℕ) → least_power z 0 k ≡ k
unfolding least_power
power_last z k = refl

power_bound : (z n k : ℕ) → z * z ≤ 10 ^ (k + n) → z * z ≤ 10 ^ least_power z n k
power_bound z zero k h = rw (power_last z k) (rw add-zero at h)
power_bound z (suc n) k h = elim (cases_lt (10 ^ k) (z * z)) [
  | inl l ↦ let e : k + suc n ≡ k + 1 + n = omega arith in rw (power_next z n k l) (power_bound z n (k + 1) (rw e at h))
  | inr l ↦ rw (power_found z (suc n) k l) l
]

nano_square : (z : ℤ) → nano z *Q nano z *Q whole (pos (10 ^ 18)) ≈ whole (pos (unsigned_abs z * unsigned_abs z))
nano_square z =
    same_if (is_mul (is_mul (is (nano z)) (is (nano z))) (is_whole (pos (10 ^ 18)))) (is_whole (pos (unsigned_abs z * unsigned_abs z)))
    (ap (λ (w : ℤ). w *ℤ pos (10 ^ 18) *ℤ pos 1) (square z) ∙ omega (arith, ints))
  where
    square : (z : ℤ) → z *ℤ z ≡ pos (unsigned_abs z * unsigned_abs z)
    square (pos n) = refl
    square (negsuc n) = refl

norm_fits : (z : ℤ) → unsigned_abs z ≤ 10 ^ 12 → nano z *Q nano z ≤Q ten_power (norm z)
unfolding norm
norm_fits z h =
    let size = unsigned_abs z in
    let k = least_power size 12 12 in
    let most : size * size ≤ 10 ^ 24 = mul-le-mul h h in
    let bound = power_bound size 12 12 most in
    cancel_Q (nano z *Q nano z) (ten_power (pos k -ℤ pos 18)) 999_999_999_999_999_999
    (le_trans (le_of_same (nano_square z)) (le_trans (le_whole (omega (arith, ints))) (le_of_same (≈_sym (ten_power_is (pos k -ℤ pos 18) k 18 (omega (arith, ints)))))))

-- ---- the zone is at most 1000
zone_nn : (semi : Decimal) → pos 0 <ℤ semi.mant → pos 0 ≤ℤ zone semi
unfolding zone
zone_nn semi h =
    let d = times_1_1 semi in
    le_whole_out (le_trans (mul_nn (mul_nn (le_whole (omega (arith, ints))) (power_nn d.exp)) (units_nn 9)) (dec_ceil_is 9 d).above)

zone_small : (semi : Decimal) → is_none (zone_span semi) ≡ false → unsigned_abs (zone semi) ≤ 10 ^ 12
unfolding zone_span
zone_small semi h = by (int_lt (pos 0) semi.mant) (int_le (zone semi) (pos 1_000_000_000_000)) refl refl h
  where
    by : (a b : Bool) → int_lt (pos 0) semi.mant ≡ a → int_le (zone semi) (pos 1_000_000_000_000) ≡ b
        → is_none {T = Ends} (if a && b then Some (record { lo = zone semi; hi = zone semi }) else None) ≡ false → unsigned_abs (zone semi) ≤ 10 ^ 12
    by true true p q h = let n = zone_nn semi (grind (arith, ints, p)) in let m : zone semi ≤ℤ pos 1_000_000_000_000 = grind (arith, ints, q) in omega (arith, ints)
    by true false p q h = absurd (grind arith)
    by false b p q h = absurd (grind arith)

fits : (k : SurfaceKind) (semi : Option Decimal) → k ≡ EvenAsph → is_none (zone_if semi) ≡ false → zone_of semi *Q zone_of semi ≤Q ten_power (norm_by k semi)
fits k None e h = absurd (grind arith)
fits k (Some semi) e h = subst (λ (k : SurfaceKind). nano (zone semi) *Q nano (zone semi) ≤Q ten_power (norm_by k (Some semi))) (sym e) (norm_fits (zone semi) (zone_small semi h))

-- in a well-formed setup the zone of each even asphere fits
pub zone_fits : (s : Setup) → IsWellFormed s → (j : ℕ) → (surface_at s (suc j)).kind ≡ EvenAsph → ZoneFits s j
unfolding whole_fault
zone_fits s w j e = fits (surface_at s (suc j)).kind (surface_at s (suc j)).semi e (by s.lens.surfaces.items s.lens.stop w.lens.whole e)
  where
    by : (fs : List Surface) (stop : ℕ) → first_fault (whole_faults fs stop) ≡ None → (slice_index_or fs (suc j) plane).kind ≡ EvenAsph
        → is_none (surface_zone (slice_index_or fs (suc j) plane)) ≡ false
    by [] stop h e = absurd (grind arith)
    by (f ∷ fs) stop h e = zone_in fs (length (f ∷ fs) - 1) 1 j (none_all (faults_from (length (f ∷ fs) - 1) 1 fs) (all_none (whole_faults (f ∷ fs) stop) h).1.1.1) e
