-- Bringing an interval to scale 12 is a shift by so many powers of ten.
use Rattle.std.proofs.Common.{◌≡◌, ℕ, zero, suc, ◌-◌, ◌≤◌, true, false, refl, sym, subst, arith}
use Rattle.std.proofs.lemmas.Bool.Decides.{nat_tests}
use Rattle.std.proofs.lemmas.Int.{ints}
use Rattle.std.specs.Prelude.{ℤ, pos, negsuc, ◌+ℤ◌, ◌*ℤ◌, nat_le, neg_ℤ}
use Rattle.fixdec.specs.Ends.{Ends}
use Rattle.fixdec.specs.Interval.{ends, iv_shift}
use Rattle.fixdec.specs.Rounding.{floor, ceil}
use Rattle.fixdec.specs.Algebra.RoundingLaws.{floor_pos, floor_pos_next}
use Rattle.lensmodel.specs.Rows.Spot.{at_12}

floor_one : (z : ℤ) → floor z (pos 1) ≡ z *ℤ pos 1
floor_one z =
    let below = floor_pos z (pos 1) (omega (arith, ints)) in
    let next = floor_pos_next z (pos 1) (omega (arith, ints)) in
    omega (arith, ints)

ceil_one : (z : ℤ) → ceil z (pos 1) ≡ z *ℤ pos 1
ceil_one z = let e = floor_one (neg_ℤ z) in omega (arith, ints)

pub at_12-is : (scale : ℕ) (a : Ends) (k : ℤ) → 6 ≤ scale → pos scale ≡ k +ℤ pos 12 → iv_shift a k ≡ at_12 scale a
unfolding iv_shift
at_12-is scale a (pos zero) h e =
    let same : scale ≡ 12 = omega (arith, ints) in
    subst (λ n. ends (floor a.lo (pos 1)) (ceil a.hi (pos 1)) ≡ at_12 n a) (sym same) (rw (floor_one a.lo, ceil_one a.hi) refl)
at_12-is scale a (pos (suc k)) h e =
    let coarse : nat_le scale 12 ≡ false = grind (arith, ints, nat_tests) in
    let more : scale - 12 ≡ suc k = omega (arith, ints) in
    rw (coarse, more) refl
at_12-is scale a (negsuc k) h e =
    let fine : nat_le scale 12 ≡ true = grind (arith, ints, nat_tests) in
    let less : 12 - scale ≡ suc k = omega (arith, ints) in
    rw (fine, less) refl
