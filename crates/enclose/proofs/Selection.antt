-- Which of four numbers is the least, and which the greatest.
use Rattle.std.proofs.Common.{◌≡◌, arith}
use Rattle.std.specs.Prelude.{ℤ, ◌≤ℤ◌}
use Rattle.std.specs.Int.{int_min, int_max}
use Rattle.std.proofs.lemmas.Int.{ints, clamps}
use Rattle.fixdec.specs.Interval.{least, greatest}

module _ (p q r s : ℤ) where
  pub least_first : p ≤ℤ q → p ≤ℤ r → p ≤ℤ s → p ≡ least p q r s
  least_first a b c = omega (arith, ints, clamps)

  pub least_second : q ≤ℤ p → q ≤ℤ r → q ≤ℤ s → q ≡ least p q r s
  least_second a b c = omega (arith, ints, clamps)

  pub least_third : r ≤ℤ p → r ≤ℤ q → r ≤ℤ s → r ≡ least p q r s
  least_third a b c = omega (arith, ints, clamps)

  pub least_fourth : s ≤ℤ p → s ≤ℤ q → s ≤ℤ r → s ≡ least p q r s
  least_fourth a b c = omega (arith, ints, clamps)

  -- one of the two between
  pub least_inner : q ≤ℤ p → r ≤ℤ s → int_min q r ≡ least p q r s
  least_inner a b = omega (arith, ints, clamps)

  pub greatest_first : q ≤ℤ p → r ≤ℤ p → s ≤ℤ p → p ≡ greatest p q r s
  greatest_first a b c = omega (arith, ints, clamps)

  pub greatest_second : p ≤ℤ q → r ≤ℤ q → s ≤ℤ q → q ≡ greatest p q r s
  greatest_second a b c = omega (arith, ints, clamps)

  pub greatest_third : p ≤ℤ r → q ≤ℤ r → s ≤ℤ r → r ≡ greatest p q r s
  greatest_third a b c = omega (arith, ints, clamps)

  pub greatest_fourth : p ≤ℤ s → q ≤ℤ s → r ≤ℤ s → s ≡ greatest p q r s
  greatest_fourth a b c = omega (arith, ints, clamps)

  -- one of the two outside
  pub greatest_outer : q ≤ℤ p → r ≤ℤ s → int_max p s ≡ greatest p q r s
  greatest_outer a b = omega (arith, ints, clamps)
