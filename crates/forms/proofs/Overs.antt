-- What a quotient answers.
use Rattle.std.proofs.Common.{ℕ, ◌≡◌, ◌<◌, ◌≤◌, true, false, refl, arith}
use Rattle.std.specs.Prelude.{ℤ, pos, ◌+ℤ◌, ◌-ℤ◌, ◌*ℤ◌, ◌≤ℤ◌, ◌<ℤ◌, int_le, unsigned_abs}
use Rattle.std.proofs.lemmas.Int.{ints, by_lt_z}
use Rattle.std.proofs.lemmas.Bool.Decides.{nat_tests}
use Rattle.fixdec.specs.Form.{LinearForm, dev, lin_hull, lin_over, quotient_about}
use Rattle.fixdec.specs.Interval.{unit, fits_cap, holds_zero}
use Rattle.fixdec.specs.Rounding.{floor}
use Rattle.fixdec.specs.declared.step.Step.{Step}
use Rattle.fixdec.specs.declared.step.Step.TheVariants.{Lost}
use Rattle.fixdec.specs.declared.step.Why.TheVariants.{Zero, Range}

le_true : (x y : ℤ) → x ≤ℤ y → int_le x y ≡ true
le_true x y h = grind (arith, ints)

le_false : (x y : ℤ) → y <ℤ x → int_le x y ≡ false
le_false x y h = grind (arith, ints)

-- the hull of a form holds 0 exactly where its deviation reaches its centre's size
with_zero : (b : LinearForm) → unsigned_abs b.centre ≤ dev b → holds_zero (lin_hull b) ≡ true
with_zero b h = rw (le_true (b.centre -ℤ pos (dev b)) (pos 0) (omega (arith, ints)), le_true (pos 0) (b.centre +ℤ pos (dev b)) (omega (arith, ints))) refl

without_zero : (b : LinearForm) → dev b < unsigned_abs b.centre → holds_zero (lin_hull b) ≡ false
without_zero b h =
    by_lt_z (pos 0) b.centre
    (λ l. rw (le_false (b.centre -ℤ pos (dev b)) (pos 0) (omega (arith, ints))) refl)
    (λ l. rw (le_true (b.centre -ℤ pos (dev b)) (pos 0) (omega (arith, ints)), le_false (pos 0) (b.centre +ℤ pos (dev b)) (omega (arith, ints))) refl)

module _ (scale : ℕ) (a b : LinearForm) where
  -- the first quotient
  abbrev pub first : ℤ
  first = floor (a.centre *ℤ unit scale) b.centre

  pub over_zero : unsigned_abs b.centre ≤ dev b → Lost Zero ≡ lin_over scale a b
  unfolding lin_over
  over_zero h = rw (with_zero b h) refl

  pub over_far : dev b < unsigned_abs b.centre → 1_000_000_000_000_000_000 < unsigned_abs first → Lost Range ≡ lin_over scale a b
  unfolding lin_over
  over_far h k = let t : fits_cap first ≡ false = grind (arith, nat_tests) in rw (without_zero b h, t) refl

  pub over_about : {r : Step LinearForm} → dev b < unsigned_abs b.centre → unsigned_abs first ≤ 1_000_000_000_000_000_000
      → r ≡ quotient_about scale first a b → r ≡ lin_over scale a b
  unfolding lin_over
  over_about h k e = let t : fits_cap first ≡ true = grind (arith, nat_tests) in rw (without_zero b h, t) e
