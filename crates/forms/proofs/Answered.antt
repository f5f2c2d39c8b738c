-- What an operation answers, from what its code answers.
use Rattle.std.proofs.Common.{ℕ, ◌≡◌, ◌∙◌, ◌+◌, ◌-◌, ◌*◌, ◌^◌, ◌<◌, ◌≤◌, List, ◌∷◌, cond, ap, true, false, refl, inl, inr, arith}
use Rattle.std.specs.Prelude.{ℤ, pos, ◌+ℤ◌, ◌*ℤ◌, ◌≤ℤ◌, ◌<ℤ◌, int_lt, unsigned_abs}
use Rattle.std.specs.Int.{div_ceil}
use Rattle.std.proofs.lemmas.Int.{ints}
use Rattle.std.proofs.lemmas.Bool.{cases_lt}
use Rattle.std.proofs.lemmas.Bool.Decides.{nat_tests}
use Rattle.std.proofs.lemmas.List.Sums.{sum_by-cons}
use Rattle.fixdec.specs.Rounding.{floor}
use Rattle.fixdec.specs.Form.{LinearForm, has_remainder, quotients, remainders, within_cap, moved_form, divided_form, multiplied_form, coefficientwise, sizes, dev, quotient_rest, cross_terms, error_terms, quotient_about, lin_times, lin_shift}
use Rattle.fixdec.specs.Interval.{unit, fits_cap}
use Rattle.fixdec.specs.declared.step.Step.{Step}
use Rattle.fixdec.specs.declared.step.Step.TheVariants.{Lost}
use Rattle.fixdec.specs.declared.step.Why.TheVariants.{Range}

-- a form that is moved by 0 stays
pub moved_zero : (f : LinearForm) → moved_form (pos 0) f ≡ f
moved_zero f = let e : pos 0 +ℤ f.centre ≡ f.centre = omega (arith, ints) in (λ i. record f { centre = e i })

pub times_at : {r : Step LinearForm} (scale : ℕ) (a b : LinearForm)
    → r ≡ within_cap (moved_form (pos 0) (divided_form (unit scale) (a.centre *ℤ b.centre) (cross_terms a b) (div_ceil (error_terms a b) (10 ^ scale)))) → r ≡ lin_times scale a b
unfolding lin_times
times_at scale a b e = e ∙ ap within_cap (moved_zero (divided_form (unit scale) (a.centre *ℤ b.centre) (cross_terms a b) (div_ceil (error_terms a b) (10 ^ scale))))

module _ (a : LinearForm) (k : ℤ) where
  pub shift_down_at : {r : Step LinearForm} → pos 0 <ℤ k
      → r ≡ within_cap (moved_form (pos 0) (divided_form (pos (10 ^ unsigned_abs k)) a.centre a.coefficients (div_ceil a.radius (10 ^ unsigned_abs k)))) → r ≡ lin_shift a k
  unfolding lin_shift
  shift_down_at h e =
      let t : int_lt (pos 0) k ≡ true = grind (arith, ints) in
      rw t (e ∙ ap within_cap (moved_zero (divided_form (pos (10 ^ unsigned_abs k)) a.centre a.coefficients (div_ceil a.radius (10 ^ unsigned_abs k)))))

  pub shift_up_at : {r : Step LinearForm} → k ≤ℤ pos 0 → r ≡ within_cap (multiplied_form (10 ^ unsigned_abs k) a) → r ≡ lin_shift a k
  unfolding lin_shift
  shift_up_at h e = let t : int_lt (pos 0) k ≡ false = grind (arith, ints) in rw t e

-- a quotient about a first quotient q
module _ (scale : ℕ) (q : ℤ) (a b : LinearForm) where
  -- what the first quotient leaves of the centre, the coefficients and the radius
  abbrev pub left_centre : ℤ
  left_centre = quotient_rest scale q a.centre b.centre

  abbrev pub left_coefficients : List ℤ
  left_coefficients = coefficientwise (quotient_rest scale q) a.coefficients b.coefficients

  abbrev pub left_radius : ℕ
  left_radius = a.radius * 10 ^ scale + unsigned_abs q * b.radius

  -- how far a quotient lies from the first
  abbrev pub far : ℕ
  far = div_ceil (unsigned_abs left_centre + sizes left_coefficients + left_radius) (unsigned_abs b.centre - dev b)

  pub about_lost : 1_000_000_000_000_000_000 < far → Lost Range ≡ quotient_about scale q a b
  about_lost h = let t : fits_cap (pos far) ≡ false = grind (arith, nat_tests) in rw t refl

  pub about_kept : {r : Step LinearForm} → far ≤ 1_000_000_000_000_000_000
      → r ≡ within_cap (moved_form q (divided_form b.centre left_centre left_coefficients (div_ceil left_radius (unsigned_abs b.centre) + div_ceil (far * dev b) (unsigned_abs b.centre))))
      → r ≡ quotient_about scale q a b
  about_kept h e = let t : fits_cap (pos far) ≡ true = grind (arith, nat_tests) in rw t e

-- what the code answers for rounded quotients, from what it has counted
pub divided_is : {r : Step LinearForm} (q n d : ℤ) (ns out : List ℤ) (radius counted : ℕ) → out ≡ quotients d ns → counted ≡ remainders d ns
    → r ≡ within_cap (record { centre = q +ℤ floor n d; coefficients = out; radius = radius + (counted + cond (has_remainder d n) 1 0) })
    → r ≡ within_cap (moved_form q (divided_form d n ns radius))
divided_is q n d ns out radius counted o k e =
    let c = sum_by-cons (λ x. cond (has_remainder d x) 1 0) n ns in
    let rest : radius + (counted + cond (has_remainder d n) 1 0) ≡ radius + remainders d (n ∷ ns) = omega arith in
    e ∙ (λ i. within_cap (record { centre = q +ℤ floor n d; coefficients = o i; radius = rest i }))

-- and where the sum of their sizes passes the cap
pub divided_lost : (q n d : ℤ) (ns : List ℤ) (radius : ℕ) → 1_000_000_000_000_000_000 < sizes (quotients d ns) → Lost Range ≡ within_cap (moved_form q (divided_form d n ns radius))
divided_lost q n d ns radius h =
    let f = moved_form q (divided_form d n ns radius) in
    let t : fits_cap (pos (unsigned_abs f.centre + dev f)) ≡ false = grind (arith, nat_tests) in
    rw t refl

-- a quotient about a first one is lost where the sizes of its coefficients pass the cap
pub about_none : (scale : ℕ) (q : ℤ) (a b : LinearForm) → 1_000_000_000_000_000_000 < sizes (quotients b.centre (left_coefficients scale q a b)) → Lost Range ≡ quotient_about scale q a b
about_none scale q a b h =
    let x = far scale q a b in
    let radius = div_ceil (left_radius scale q a b) (unsigned_abs b.centre) + div_ceil (x * dev b) (unsigned_abs b.centre) in
    let lost = divided_lost q (left_centre scale q a b) b.centre (left_coefficients scale q a b) radius h in
    elim (cases_lt 1_000_000_000_000_000_000 x) [
      | inl l ↦ about_lost scale q a b l
      | inr l ↦ about_kept scale q a b l lost
    ]
