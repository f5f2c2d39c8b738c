-- Quotients of narrower intervals.
use Rattle.std.proofs.Common.{◌≡◌, ℕ, false, arith, ◌⊎◌, inl, inr, [], ◌∷◌}
use Rattle.std.proofs.lemmas.Bool.{cond_both}
use Rattle.std.proofs.lemmas.Int.{ints, clamps}
use Rattle.std.specs.Prelude.{ℤ, pos, ◌*ℤ◌, ◌≤ℤ◌, ◌<ℤ◌, if◌then◌else◌}
use Rattle.fixdec.specs.Algebra.FracLaws.{≈_sym}
use Rattle.fixdec.specs.Algebra.Linear.{linear, fact, no_fact, reads}
use Rattle.fixdec.specs.Algebra.MemberLaws.{units_pos}
use Rattle.fixdec.specs.Algebra.Order.{le_of_same, le_whole, le_whole_out}
use Rattle.fixdec.specs.Algebra.OrderLaws.{le_same_left, le_same_right, pos_nonzero, same_cancel, whole_mul}
use Rattle.fixdec.specs.Algebra.Quotients.{over_law}
use Rattle.fixdec.specs.Algebra.RoundingLaws.{floor_is, ceil_is, ratio_is}
use Rattle.fixdec.specs.Ends.{Ends}
use Rattle.fixdec.specs.Frac.{Frac, ◌≈◌, ◌*Q◌, neg_Q, whole}
use Rattle.fixdec.specs.Interval.{unit, least, greatest, least_quotient, greatest_quotient, holds_zero, iv_over, ends}
use Rattle.fixdec.specs.Member.{IsMember, units}
use Rattle.fixdec.specs.Rounding.{floor, ceil, ratio}
use Rattle.fixdec.specs.declared.step.Step.TheVariants.{Lost}
use Rattle.fixdec.specs.declared.step.Why.TheVariants.{Zero}
use Rattle.enclose.specs.EndLaws.{least_quotient_is, greatest_quotient_is, without_zero}
use Rattle.hitsolve.specs.Aspheres.Meeting.{over_power}
use Rattle.hitsolve.specs.Aspheres.Powers.{power_back}
use Rattle.hitsolve.specs.Narrowing.Parts.{IsPart, IsNarrower, ends_narrower}
use Rattle.hitsolve.specs.Narrowing.Products.{IsIn, first_in, last_in, at_least, at_most, zero_wider}
use Rattle.hitsolve.specs.Narrowing.Sums.{floor_le_ceil}

-- a number between the ends, in units of the scale
in_member : (scale : ℕ) (a : Ends) (x : ℤ) → IsIn x a → IsMember scale a (over_power (pos scale) (whole x))
in_member scale a x h =
    let e = power_back (pos scale) (whole x) in
    record { low = le_same_right (le_whole h.low) (≈_sym e); high = le_same_left e (le_whole h.high) }

side : (b : Ends) (y : ℤ) → holds_zero b ≡ false → IsIn y b → y ≡ pos 0 → ⊥
side b y e h z = by (without_zero b e)
  where
    by : (pos 0 <ℤ b.lo) ⊎ (b.hi <ℤ pos 0) → ⊥
    by (inl k) = let l = h.low in omega (arith, ints)
    by (inr k) = let u = h.high in omega (arith, ints)

module _ (scale : ℕ) (a b : Ends) (x y : ℤ) (p : IsIn x a) (q : IsIn y b) (apart : holds_zero b ≡ false) where
  abbrev X : Frac
  X = over_power (pos scale) (whole x)

  abbrev Y : Frac
  Y = over_power (pos scale) (whole y)

  abbrev U : Frac
  U = units scale

  some : y ≡ pos 0 → ⊥
  some = side b y apart q

  -- the quotient of the two
  quotient : ratio x y *Q Y ≈ X
  quotient =
      same_cancel U (pos_nonzero (units_pos scale))
      (linear (ratio x y ∷ Y ∷ X ∷ U ∷ whole x ∷ whole y ∷ []) _ _ (search reads depth 20 fits 4000)
      (fact (ratio x y) (power_back (pos scale) (whole y)) (search reads depth 20 fits 4000) (fact (neg_Q (whole (pos 1))) (power_back (pos scale) (whole x)) (search reads depth 20 fits 4000)
      (fact (whole (pos 1)) (ratio_is x y some) (search reads depth 20 fits 4000) no_fact))) tt)

  in_units : ratio x y *Q U ≈ ratio (x *ℤ unit scale) y
  in_units =
      same_cancel (whole y) nonzero
      (linear (ratio x y ∷ ratio (x *ℤ unit scale) y ∷ U ∷ whole x ∷ whole y ∷ whole (x *ℤ unit scale) ∷ []) _ _ (search reads depth 20 fits 4000)
      (fact U (ratio_is x y some) (search reads depth 20 fits 4000) (fact (neg_Q (whole (pos 1))) (ratio_is (x *ℤ unit scale) y some) (search reads depth 20 fits 4000)
      (fact (neg_Q (whole (pos 1))) (whole_mul x (unit scale)) (search reads depth 20 fits 4000) no_fact))) tt)
    where
      nonzero : whole y ≈ whole (pos 0) → ⊥
      nonzero e = some (let l = le_whole_out (le_of_same e) in let u = le_whole_out (le_of_same (≈_sym e)) in omega (arith, ints))

  bounds : IsMember scale (record { lo = least_quotient scale a b; hi = greatest_quotient scale a b }) (ratio x y)
  bounds =
      over_law scale a b (ratio x y) X Y quotient (in_member scale a x p) (in_member scale b y q) _ _ (least_quotient_is scale a b) (greatest_quotient_is scale a b) (without_zero b apart)

  quotient_least : least_quotient scale a b ≤ℤ floor (x *ℤ unit scale) y
  quotient_least = (floor_is (x *ℤ unit scale) y some).greatest _ (le_same_right bounds.low in_units)

  quotient_greatest : ceil (x *ℤ unit scale) y ≤ℤ greatest_quotient scale a b
  quotient_greatest = (ceil_is (x *ℤ unit scale) y some).least _ (le_same_left (≈_sym in_units) bounds.high)

-- the first of four numbers
least_first : (p q r s t u v w : ℤ) → p ≤ℤ t → least p q r s ≤ℤ greatest t u v w
least_first p q r s t u v w h = omega (arith, ints, clamps)

pub iv_over-narrower : {a b c d : Ends} → IsPart a b → IsPart c d → (scale : ℕ) → IsNarrower IsPart (iv_over scale a c) (iv_over scale b d)
unfolding iv_over
iv_over-narrower {a} {b} {c} {d} p q scale =
    cond_both (holds_zero d) (Lost Zero) (ends (least_quotient scale b d) (greatest_quotient scale b d))
    (λ s. IsNarrower IsPart (if holds_zero c then Lost Zero else ends (least_quotient scale a c) (greatest_quotient scale a c)) s)
    (λ e. tt) (λ e. rw (zero_wider c d q e) (values e))
  where
    values : holds_zero d ≡ false → IsNarrower IsPart (ends (least_quotient scale a c) (greatest_quotient scale a c)) (ends (least_quotient scale b d) (greatest_quotient scale b d))
    values e =
        let u = first_in p in
        let v = last_in p in
        let x = first_in q in
        let y = last_in q in
        let U = unit scale in
        ends_narrower _ _ _ _
        (at_least _ _ _ _ _ (quotient_least scale b d _ _ u x e) (quotient_least scale b d _ _ u y e) (quotient_least scale b d _ _ v x e) (quotient_least scale b d _ _ v y e))
        (least_first (floor (a.lo *ℤ U) c.lo) (floor (a.lo *ℤ U) c.hi) (floor (a.hi *ℤ U) c.lo) (floor (a.hi *ℤ U) c.hi)
        (ceil (a.lo *ℤ U) c.lo) (ceil (a.lo *ℤ U) c.hi) (ceil (a.hi *ℤ U) c.lo) (ceil (a.hi *ℤ U) c.hi) (floor_le_ceil (a.lo *ℤ U) c.lo (side d c.lo e x)))
        (at_most _ _ _ _ _ (quotient_greatest scale b d _ _ u x e) (quotient_greatest scale b d _ _ u y e) (quotient_greatest scale b d _ _ v x e) (quotient_greatest scale b d _ _ v y e))
