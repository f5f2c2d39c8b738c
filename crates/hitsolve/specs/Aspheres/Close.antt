-- Two crossings of one line with an even asphere are close.
use Rattle.std.proofs.Common.{◌≡◌, ℕ, [], ◌∷◌, arith, ◌⊎◌, inl, inr, false}
use Rattle.std.proofs.lemmas.Int.{ints}
use Rattle.std.specs.Prelude.{ℤ, pos, ◌<ℤ◌, ◌≤ℤ◌, unsigned_abs, min}
use Rattle.fixdec.specs.Algebra.FracLaws.{≈_sym}
use Rattle.fixdec.specs.Algebra.Inverse.{inverse, inverse_is}
use Rattle.fixdec.specs.Algebra.Linear.{linear, linear_le, fact, order, no_fact, reads}
use Rattle.fixdec.specs.Algebra.MemberLaws.{ends_in_order, units_pos}
use Rattle.fixdec.specs.Algebra.Order.{le_of_same, le_trans, nn_out, scale_le}
use Rattle.fixdec.specs.Algebra.OrderLaws.{le_cancel, le_of_lt, le_same_left, lt_from_not, lt_not_le, lt_of_lt_le, lt_whole, mul_nn, pos_nonzero, zero_le_one}
use Rattle.fixdec.specs.Algebra.Within.{HasSize, within_add, within_more, within_mul, within_same, within_sub}
use Rattle.fixdec.specs.Ends.{Ends}
use Rattle.fixdec.specs.Frac.{Frac, ◌≈◌, ◌≤Q◌, ◌<Q◌, ◌+Q◌, ◌*Q◌, ◌-Q◌, neg_Q, size, whole}
use Rattle.fixdec.specs.Interval.{holds_zero, iv_size}
use Rattle.fixdec.specs.Member.{IsMember, units}
use Rattle.enclose.specs.EndLaws.{without_zero}
use Rattle.enclose.specs.IntervalLaws.{iv_size-encloses}
use Rattle.hitsolve.specs.Aspheres.Meeting.{over_power}
use Rattle.hitsolve.specs.Aspheres.MidRoot.{inverse_pos}
use Rattle.hitsolve.specs.Aspheres.Powers.{power_back}
use Rattle.hitsolve.specs.Aspheres.Window.{size_holds}

-- how far apart two crossings may be, for S* - z* of at most the size s, a slope from g to h, and m of at least the size m:
-- s (1/g - 1/h) + 2 eps (1 + 2/m) / g
abbrev pub crossing_distance : Frac → Frac → Frac → Frac → Frac → Frac
crossing_distance eps s g h m =
    s *Q (inverse g -Q inverse h) +Q whole (pos 2) *Q eps *Q (whole (pos 1) +Q whole (pos 2) *Q inverse m) *Q inverse g

-- ---- one over numbers above 0
inverse_of : {a : Frac} → whole (pos 0) <Q a → a *Q inverse a ≈ whole (pos 1)
inverse_of {a} p = inverse_is a (pos_nonzero p)

pub inverse_le : (a b : Frac) → whole (pos 0) <Q a → a ≤Q b → inverse b ≤Q inverse a
inverse_le a b p h =
    let q = lt_of_lt_le p h in
    linear_le (a ∷ b ∷ inverse a ∷ inverse b ∷ []) _ _ (search reads depth 20 fits 4000)
    (fact (neg_Q (inverse a)) (inverse_of q) (search reads depth 20 fits 4000) (fact (inverse b) (inverse_of p) (search reads depth 20 fits 4000)
    (order (mul_nn (le_of_lt (inverse_pos a p)) (le_of_lt (inverse_pos b q))) h (search reads depth 20 fits 4000) no_fact))) tt

-- a number that isn't negative has its own size
pub own_size : {p x : Frac} → whole (pos 0) ≤Q x → x ≤Q p → HasSize p x
own_size {p} {x} n h = record {
  above = h;
  below = linear_le (p ∷ x ∷ []) _ _ (search reads depth 16)
      (order zero_le_one h (search reads depth 16) (order zero_le_one n (search reads depth 16) (order zero_le_one n (search reads depth 16) no_fact))) tt;
}

between : (x y l h : Frac) → l ≤Q x → x ≤Q h → l ≤Q y → y ≤Q h → HasSize (h -Q l) (x -Q y)
between x y l h p q r s = record {
  above = linear_le (x ∷ y ∷ l ∷ h ∷ []) _ _ (search reads depth 16) (order zero_le_one q (search reads depth 16) (order zero_le_one r (search reads depth 16) no_fact)) tt;
  below = linear_le (x ∷ y ∷ l ∷ h ∷ []) _ _ (search reads depth 16) (order zero_le_one s (search reads depth 16) (order zero_le_one p (search reads depth 16) no_fact)) tt;
}

-- a quotient's divisor, between g and h
pub record IsBetween (g h x : Frac) : Type 0 where
  pub low : g ≤Q x
  pub high : x ≤Q h

-- two numbers, each times its divisor the same but for small parts
pub quotients_close : (d s k g h : Frac) → whole (pos 0) <Q g → HasSize s d
    → (x1 x2 g1 g2 k1 k2 : Frac) → IsBetween g h g1 → IsBetween g h g2 → HasSize k k1 → HasSize k k2 → x1 *Q g1 ≈ d +Q k1 → x2 *Q g2 ≈ d +Q k2
    → HasSize (s *Q (inverse g -Q inverse h) +Q (k *Q inverse g +Q k *Q inverse g)) (x1 -Q x2)
quotients_close d s k g h p hs x1 x2 g1 g2 k1 k2 b1 b2 h1 h2 e1 e2 =
    let p1 = lt_of_lt_le p b1.low in
    let p2 = lt_of_lt_le p b2.low in
    let ph = lt_of_lt_le p1 b1.high in
    let I1 = inverse g1 in
    let I2 = inverse g2 in
    let up1 = inverse_le g g1 p b1.low in
    let up2 = inverse_le g g2 p b2.low in
    let low1 = inverse_le g1 h p1 b1.high in
    let low2 = inverse_le g2 h p2 b2.high in
    within_same (linear (d ∷ x1 ∷ x2 ∷ g1 ∷ g2 ∷ k1 ∷ k2 ∷ I1 ∷ I2 ∷ []) _ _ (search reads depth 24 fits 20000)
    (fact x1 (inverse_of p1) (search reads depth 24 fits 20000) (fact (neg_Q x2) (inverse_of p2) (search reads depth 24 fits 20000)
    (fact (neg_Q I1) e1 (search reads depth 24 fits 20000) (fact I2 e2 (search reads depth 24 fits 20000) no_fact)))) tt)
    (within_add (within_mul hs (between I1 I2 (inverse h) (inverse g) low1 up1 low2 up2))
    (within_sub (within_mul h1 (own_size (le_of_lt (inverse_pos g1 p1)) up1)) (within_mul h2 (own_size (le_of_lt (inverse_pos g2 p2)) up2))))

-- ---- ends as fractions
-- n units of a scale
abbrev pub at_scale : ℕ → ℤ → Frac
at_scale scale n = over_power (pos scale) (whole n)

pub member_low : (scale : ℕ) (a : Ends) (u : Frac) → IsMember scale a u → at_scale scale a.lo ≤Q u
member_low scale a u h = le_cancel (units scale) (units_pos scale) (le_same_left (power_back (pos scale) (whole a.lo)) h.low)

pub member_high : (scale : ℕ) (a : Ends) (u : Frac) → IsMember scale a u → u ≤Q at_scale scale a.hi
member_high scale a u h = le_cancel (units scale) (units_pos scale) (le_trans h.high (le_of_same (≈_sym (power_back (pos scale) (whole a.hi)))))

pub at_scale-pos : (scale : ℕ) (n : ℤ) → pos 0 <ℤ n → whole (pos 0) <Q at_scale scale n
at_scale-pos scale n h =
    lt_from_not (λ k. lt_not_le (lt_whole h) (le_same_left (≈_sym (power_back (pos scale) (whole n)))
    (linear_le (at_scale scale n ∷ units scale ∷ []) _ _ (search reads depth 16) (order (le_of_lt (units_pos scale)) k (search reads depth 16) no_fact) tt)))

-- the size of a member is at most the greatest size, and that of one above 0 at least the least size
pub size_high : (scale : ℕ) (a : Ends) (u : Frac) → IsMember scale a u → HasSize (at_scale scale (iv_size a).hi) u
size_high scale a u h = within_more (member_high scale (iv_size a) (size u) (iv_size-encloses scale a u h)) (size_holds u)

pub size_low : (scale : ℕ) (a : Ends) (u : Frac) → IsMember scale a u → whole (pos 0) <Q u → at_scale scale (iv_size a).lo ≤Q u
size_low scale a u h p = le_trans (member_low scale (iv_size a) (size u) (iv_size-encloses scale a u h)) (own u (le_of_lt p))
  where
    own : (x : Frac) → whole (pos 0) ≤Q x → size x ≤Q x
    own x n = let k = (nn_out n).num in record { cross = scale_le (pos (unsigned_abs x.num)) x.num x.less (omega (arith, ints)) }

-- what doesn't hold 0 has a least size above 0
pub size_above : (scale : ℕ) (a : Ends) (u : Frac) → IsMember scale a u → holds_zero a ≡ false → pos 0 <ℤ (iv_size a).lo
unfolding iv_size
size_above scale a u h e = let o = ends_in_order scale a u h in rw e (by (without_zero a e) o)
  where
    by : (pos 0 <ℤ a.lo) ⊎ (a.hi <ℤ pos 0) → a.lo ≤ℤ a.hi → pos 0 <ℤ pos (min (unsigned_abs a.lo) (unsigned_abs a.hi))
    by (inl p) o = omega (arith, ints)
    by (inr p) o = omega (arith, ints)
