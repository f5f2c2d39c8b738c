-- What a form of zero leaves of a form: as a factor the form of zero, and as a summand the form.
use Rattle.std.proofs.Common.{◌≡◌, ◌∙◌, ℕ, zero, suc, ◌+◌, ◌≤◌, ◌^◌, true, false, not, cond, List, [], ◌∷◌, length, replicate, refl, ap, arith}
use Rattle.std.specs.Prelude.{ℤ, pos, ◌+ℤ◌, ◌*ℤ◌, unsigned_abs}
use Rattle.std.specs.Int.{div_ceil}
use Rattle.std.specs.Ordering.{int_eq}
use Rattle.std.proofs.Math.Nat.{zero-div}
use Rattle.std.proofs.lemmas.Bool.Decides.{nat_tests}
use Rattle.std.proofs.lemmas.Int.{ints}
use Rattle.std.proofs.lemmas.List.Sums.{sum_by-cons}
use Rattle.fixdec.specs.Ends.{InCap}
use Rattle.fixdec.specs.Form.{LinearForm, coefficientwise, dev, divided_form, error_terms, has_remainder, lin_of_span, lin_plus, lin_times, linear_operations, quotients, remainders, within_cap}
use Rattle.fixdec.specs.Interval.{fits_cap, unit}
use Rattle.fixdec.specs.Rounding.{floor}
use Rattle.fixdec.specs.declared.step.Step.TheVariants.{Val}
use Rattle.enclose.specs.Zeros.{LeavesZero, single}
use Rattle.forms.specs.Kept.{IsKept}

abbrev zero_form : LinearForm
zero_form = record { centre = pos 0; coefficients = replicate 32 (pos 0); radius = 0 }

-- ---- a form within the cap is kept
within : (n : ℕ) → n ≤ 1_000_000_000_000_000_000 → fits_cap (pos n) ≡ true
within n h = grind (arith, nat_tests)

kept : (f : LinearForm) → IsKept f → within_cap f ≡ Val f
kept f h = rw (within (unsigned_abs f.centre + dev f) h.fits) refl

-- ---- the sum
unchanged : (z : ℤ) → z +ℤ pos 0 ≡ z
unchanged z = omega (arith, ints)

sum_zeros : (n : ℕ) (ks : List ℤ) → length ks ≡ n → coefficientwise ◌+ℤ◌ ks (replicate n (pos 0)) ≡ ks
sum_zeros zero [] h = refl
sum_zeros zero (k ∷ ks) h = absurd (omega arith)
sum_zeros (suc n) [] h = absurd (omega arith)
sum_zeros (suc n) (k ∷ ks) h = (λ i. unchanged k i ∷ sum_zeros n ks (omega arith) i)

plus_zero : (f : LinearForm) → IsKept f → lin_plus f zero_form ≡ Val f
unfolding lin_plus
plus_zero f h =
    let radius : f.radius + 0 ≡ f.radius = omega arith in
    (λ i. within_cap (record { centre = unchanged f.centre i; coefficients = sum_zeros 32 f.coefficients h.count i; radius = radius i })) ∙ kept f h

-- ---- the product
cross_zeros : (c : ℤ) (n : ℕ) (ks : List ℤ) → length ks ≡ n → coefficientwise (λ k l. c *ℤ l +ℤ pos 0 *ℤ k) ks (replicate n (pos 0)) ≡ replicate n (pos 0)
cross_zeros c zero [] h = refl
cross_zeros c zero (k ∷ ks) h = absurd (omega arith)
cross_zeros c (suc n) [] h = absurd (omega arith)
cross_zeros c (suc n) (k ∷ ks) h =
    let first : c *ℤ pos 0 +ℤ pos 0 *ℤ k ≡ pos 0 = omega (arith, ints) in
    (λ i. first i ∷ cross_zeros c n ks (omega arith) i)

no_errors : (f : LinearForm) → error_terms f zero_form ≡ 0
no_errors f = omega arith

ceiling_none : (n : ℕ) → div_ceil 0 n ≡ 0
ceiling_none n = omega (arith, zero-div n)

none_times : (z : ℤ) → pos 0 *ℤ z ≡ pos 0
none_times z = omega (arith, ints)

module _ (scale : ℕ) where
  floor_none : floor (pos 0) (unit scale) ≡ pos 0
  floor_none = ap pos (zero-div (10 ^ scale))

  no_remainder : has_remainder (unit scale) (pos 0) ≡ false
  no_remainder = ap (λ z. not (int_eq z (pos 0))) ((λ i. floor_none i *ℤ unit scale) ∙ none_times (unit scale))

  quotients_none : (n : ℕ) → quotients (unit scale) (replicate n (pos 0)) ≡ replicate n (pos 0)
  quotients_none zero = refl
  quotients_none (suc n) = (λ i. floor_none i ∷ quotients_none n i)

  remainders_none : (n : ℕ) → remainders (unit scale) (replicate n (pos 0)) ≡ 0
  remainders_none zero = refl
  remainders_none (suc n) =
      let count : ℤ → ℕ = λ z. cond (has_remainder (unit scale) z) 1 0 in
      let first : count (pos 0) ≡ 0 = ap (λ b. cond b 1 0) no_remainder in
      let rest = remainders_none n in
      let both = sum_by-cons count (pos 0) (replicate n (pos 0)) in
      omega arith

  divided_zero : divided_form (unit scale) (pos 0) (replicate 32 (pos 0)) 0 ≡ zero_form
  divided_zero = (λ i. record { centre = floor_none i; coefficients = quotients_none 32 i; radius = 0 + remainders_none 33 i })

  times_zero : (f : LinearForm) → IsKept f → lin_times scale f zero_form ≡ Val zero_form
  unfolding lin_times
  times_zero f h =
      let centre : f.centre *ℤ pos 0 ≡ pos 0 = omega (arith, ints) in
      let errors = ap (λ n. div_ceil n (10 ^ scale)) (no_errors f) ∙ ceiling_none (10 ^ scale) in
      (λ i. within_cap (divided_form (unit scale) (centre i) (cross_zeros f.centre 32 f.coefficients h.count i) (errors i))) ∙ ap within_cap divided_zero

  -- a form of 32 coefficients within the cap
  pub linear_leaves_zero : (f : LinearForm) → IsKept f → LeavesZero (linear_operations scale) f
  unfolding lin_of_span
  linear_leaves_zero f h = record { times = times_zero f h; plus = plus_zero f h }

  -- the form of a number within the cap is so
  number_kept : (z : ℤ) → InCap z → IsKept (lin_of_span (single z))
  unfolding lin_of_span
  number_kept z h = record { count = refl; fits = omega (arith, ints) }

  pub number_leaves_zero : (z : ℤ) → InCap z → LeavesZero (linear_operations scale) (lin_of_span (single z))
  number_leaves_zero z h = linear_leaves_zero (lin_of_span (single z)) (number_kept z h)
