-- Zones, by the steps of their making.
use Rattle.std.proofs.Common.{◌≡◌, ℕ, zero, suc, ℤ, pos, negsuc, ◌*◌, ◌^◌, ◌<◌, ◌≤◌, true, false, refl, sym, ap, ◌∙◌, arith, Some, None, inl, inr, subst, [], ◌∷◌}
use Rattle.std.proofs.Math.Nat.{one-le-pow, mul-le-mul}
use Rattle.std.proofs.lemmas.Bool.{leb-false, le-leb, cases_lt}
use Rattle.std.proofs.lemmas.Int.{ints, unsigned_abs-mul, fits_signed_from_abs}
use Rattle.std.specs.Int.{w128}
use Rattle.std.specs.Int.Signed.{le_z, lt_z}
use Rattle.std.specs.Prelude.{◌≤ℤ◌, ◌<ℤ◌, ◌+ℤ◌, ◌-ℤ◌, ◌*ℤ◌, ◌&&◌, int_le, int_lt, unsigned_abs, FitsSigned, if◌then◌else◌}
use Rattle.fixdec.specs.Decimal.{Decimal, value, ten_power}
use Rattle.fixdec.specs.Ends.{Ends, InCap}
use Rattle.fixdec.specs.Interval.{ends, fits_cap}
use Rattle.fixdec.specs.Scaled.{floor_times, ceil_times, dec_ceil}
use Rattle.fixdec.specs.Frac.{whole, neg_Q, ◌≈◌, ◌*Q◌}
use Rattle.fixdec.specs.Algebra.Terms.{is, is_mul, is_whole, same_if}
use Rattle.fixdec.specs.Algebra.Linear.{linear, fact, no_fact, reads}
use Rattle.fixdec.specs.Member.{units}
use Rattle.fixdec.specs.Algebra.PowerLaws.{is_tenth, whole-mul, ten_power-add, dec_ceil_is, ceil_same}
use Rattle.fixdec.specs.Rounding.{IsCeil}
use Rattle.fixdec.specs.Zone.{zone, zone_span, IsZone, times_1_1, eleven_tenths}
use Rattle.fixdec.specs.declared.step.Step.TheVariants.{Val, Lost}
use Rattle.fixdec.specs.declared.step.Why.TheVariants.{Range}
use Rattle.exactdec.proofs.Spans.{times_order, ends_val}

-- the two ends of 1.1 times the semi-diameter
abbrev pub low_of : Decimal → ℤ
low_of d = floor_times (pos 11 *ℤ d.mant) (d.exp +ℤ pos 8)

abbrev pub high_of : Decimal → ℤ
high_of d = ceil_times (pos 11 *ℤ d.mant) (d.exp +ℤ pos 8)

pub zone_is : (d : Decimal) → zone d ≡ high_of d
unfolding zone dec_ceil
zone_is d = ap (ceil_times (pos 11 *ℤ d.mant)) (omega (arith, ints))

not_above : (m : ℤ) → le_z m (pos 0) ≡ true → int_lt (pos 0) m ≡ false
not_above m h = grind (arith, ints)

above : (m : ℤ) → le_z m (pos 0) ≡ false → int_lt (pos 0) m ≡ true
above m h = grind (arith, ints)

past : (m k : ℤ) → lt_z k m ≡ true → int_le m k ≡ false
past m k h = grind (arith, ints)

within : (m k : ℤ) → lt_z k m ≡ false → int_le m k ≡ true
within m k h = grind (arith, ints)

-- the ends of a Val
pub val_ends : (lo hi : ℤ) (s : Ends) → Val s ≡ ends lo hi → (s.lo ≡ lo) × (s.hi ≡ hi)
unfolding ends
val_ends lo hi s = elim (fits_cap lo && fits_cap hi) as (λ b. Val s ≡ (if b then Val (record { lo = lo; hi = hi }) else Lost Range) → (s.lo ≡ lo) × (s.hi ≡ hi)) [ true ↦ λ e. (cc, cc) | false ↦ λ e. absurd cc ]

-- ends from 0 on that are not kept: the upper one is past the cap
lost_ends : (lo hi : ℤ) → pos 0 ≤ℤ lo → lo ≤ℤ hi → ((s : Ends) → ends lo hi ≡ Val s → ⊥) → pos 1_000_000_000_000_000_000 ≤ℤ hi
lost_ends lo hi p q n = elim (cases_lt 1_000_000_000_000_000_000 (unsigned_abs hi)) [
  | inl h ↦ omega (arith, ints)
  | inr h ↦
      let l : unsigned_abs lo ≤ 1_000_000_000_000_000_000 = omega (arith, ints) in
      absurd (n (record { lo = lo; hi = hi }) (ends_val lo hi (le-leb (unsigned_abs lo) 1_000_000_000_000_000_000 l) (le-leb (unsigned_abs hi) 1_000_000_000_000_000_000 h)))
]

high_past : (z : ℤ) → pos 1_000_000_000_000_000_000 ≤ℤ z → lt_z (pos 1_000_000_000_000) z ≡ true
high_past z h = grind (arith, ints)

low_times : (a : ℕ) (k : ℤ) → pos 0 ≤ℤ floor_times (pos a) k
low_times a (pos k) = omega (arith, ints)
low_times a (negsuc k) = omega (arith, ints)

low_not_below : (d : Decimal) → le_z d.mant (pos 0) ≡ false → pos 0 ≤ℤ low_of d
low_not_below d h = elim d.mant as (λ m. le_z m (pos 0) ≡ false → pos 0 ≤ℤ floor_times (pos 11 *ℤ m) (d.exp +ℤ pos 8)) [ pos n ↦ λ e. low_times (11 * n) (d.exp +ℤ pos 8) | negsuc n ↦ λ e. absurd cc ] h

pub none_at_most : (d : Decimal) → le_z d.mant (pos 0) ≡ true → None ≡ zone_span d
unfolding zone_span
none_at_most d h = rw (not_above d.mant h)

none_past : (d : Decimal) → int_lt (pos 0) d.mant ≡ true → int_le (zone d) (pos 1_000_000_000_000) ≡ false → None ≡ zone_span d
unfolding zone_span
none_past d p q = rw (p, q)

pub none_above : (d : Decimal) (s : Ends) → le_z d.mant (pos 0) ≡ false → Val s ≡ ends (low_of d) (high_of d) → lt_z (pos 1_000_000_000_000) s.hi ≡ true → None ≡ zone_span d
none_above d s h e l =
    let hi : s.hi ≡ zone d = (val_ends (low_of d) (high_of d) s e).1 ∙ sym (zone_is d) in
    none_past d (above d.mant h) (past (zone d) (pos 1_000_000_000_000) (rw (← hi) l))

pub some_zone : (d : Decimal) (s : Ends) → le_z d.mant (pos 0) ≡ false → Val s ≡ ends (low_of d) (high_of d) → lt_z (pos 1_000_000_000_000) s.hi ≡ false → Some (record { lo = s.hi; hi = s.hi }) ≡ zone_span d
unfolding zone_span
some_zone d s h e l =
    let hi : s.hi ≡ zone d = (val_ends (low_of d) (high_of d) s e).1 ∙ sym (zone_is d) in
    rw (above d.mant h, within (zone d) (pos 1_000_000_000_000) (rw (← hi) l)) (ap (λ (z : ℤ). Some (record { lo = z; hi = z })) hi)

pub none_lost : (d : Decimal) → le_z d.mant (pos 0) ≡ false → ((s : Ends) → ends (low_of d) (high_of d) ≡ Val s → ⊥) → None ≡ zone_span d
none_lost d h n =
    let far = lost_ends (low_of d) (high_of d) (low_not_below d h) (times_order (pos 11 *ℤ d.mant) (d.exp +ℤ pos 8)) n in
    none_past d (above d.mant h) (past (zone d) (pos 1_000_000_000_000) (rw zone_is (high_past (high_of d) far)))

pub fits_eleven : (m : ℤ) → unsigned_abs m < 10 ^ 30 → FitsSigned w128 (pos 11 *ℤ m)
fits_eleven m h = fits_signed_from_abs w128 (pos 11 *ℤ m) (omega (arith, unsigned_abs-mul (pos 11) m))

pub fits_cap_hi : (z : ℤ) → InCap z → FitsSigned w128 z
fits_cap_hi z h = fits_signed_from_abs w128 z (omega arith)

high_times : (a : ℕ) (k : ℤ) → 0 < a → pos 0 <ℤ ceil_times (pos a) k
high_times zero k h = absurd (omega arith)
high_times (suc a) (pos k) h =
    let power : 1 ≤ 10 ^ k = one-le-pow k 10 (omega arith) in
    let more : 1 * 1 ≤ suc a * 10 ^ k = mul-le-mul h power in
    omega (arith, ints)
high_times (suc a) (negsuc k) h = omega (arith, ints)

high_above : (d : Decimal) → le_z d.mant (pos 0) ≡ false → pos 0 <ℤ high_of d
high_above d h = elim d.mant as (λ m. le_z m (pos 0) ≡ false → pos 0 <ℤ ceil_times (pos 11 *ℤ m) (d.exp +ℤ pos 8)) [
  | pos n ↦ λ e. high_times (11 * n) (d.exp +ℤ pos 8) (let p = leb-false n 0 e in omega arith)
  | negsuc n ↦ λ e. absurd cc
] h

not_past : (m k : ℤ) → lt_z k m ≡ false → m ≤ℤ k
not_past m k h = grind (arith, ints)

pub zone_range : (d : Decimal) (s : Ends) → le_z d.mant (pos 0) ≡ false → Val s ≡ ends (low_of d) (high_of d) → lt_z (pos 1_000_000_000_000) s.hi ≡ false → IsZone (record { lo = s.hi; hi = s.hi })
zone_range d s h e l =
    let hi = (val_ends (low_of d) (high_of d) s e).1 in
    record { low = rw hi (high_above d h); one = refl; high = not_past s.hi (pos 1_000_000_000_000) l }

-- the value of 1.1 times a decimal
value_times_1_1 : (d : Decimal) → value (times_1_1 d) ≈ value d *Q eleven_tenths
value_times_1_1 d =
    let T = ten_power d.exp in
    let W = whole (pos 11 *ℤ d.mant) in
    let S = ten_power (d.exp -ℤ pos 1) in
    let N = ten_power (negsuc 0) in
    let step : d.exp -ℤ pos 1 ≡ d.exp +ℤ negsuc 0 = omega (arith, ints) in
    let less : S ≈ T *Q N = subst (λ (e : ℤ). ten_power e ≈ T *Q N) (sym step) (ten_power-add d.exp (negsuc 0)) in
    let tenth : eleven_tenths ≈ whole (pos 11) *Q N = same_if (is eleven_tenths) (is_mul (is_whole (pos 11)) (is_tenth 1)) refl in
    linear (T ∷ W ∷ S ∷ N ∷ eleven_tenths ∷ whole d.mant ∷ []) _ _ (search reads depth 20 fits 4000)
    (fact S (whole-mul (pos 11) d.mant) (search reads depth 20 fits 4000)
    (fact (whole (pos 11) *Q whole d.mant) less (search reads depth 20 fits 4000)
    (fact (neg_Q (whole d.mant *Q T)) tenth (search reads depth 20 fits 4000) no_fact))) tt

-- the zone is a ceiling
pub zone_ceil : (d : Decimal) → IsCeil (value d *Q eleven_tenths *Q units 9) (zone d)
unfolding zone
zone_ceil d =
    let same : value (times_1_1 d) *Q units 9 ≈ value d *Q eleven_tenths *Q units 9 =
    linear (value (times_1_1 d) ∷ value d ∷ eleven_tenths ∷ units 9 ∷ []) _ _ (search reads depth 20 fits 4000) (fact (units 9) (value_times_1_1 d) (search reads depth 20 fits 4000) no_fact) tt in
    ceil_same same (dec_ceil_is 9 (times_1_1 d))
