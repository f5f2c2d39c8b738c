-- Where a line meets an even asphere lies in the window.
use Rattle.std.proofs.Common.{ℕ, [], ◌∷◌, List, arith, ◌⊎◌, inl, inr}
use Rattle.std.proofs.lemmas.Int.{ints}
use Rattle.std.specs.Prelude.{ℤ, pos, neg_ℤ, unsigned_abs}
use Rattle.fixdec.specs.Algebra.FracLaws.{≈_trans}
use Rattle.fixdec.specs.Algebra.Linear.{linear, linear_le, fact, order, no_fact, reads}
use Rattle.fixdec.specs.Algebra.MemberLaws.{units_nn}
use Rattle.fixdec.specs.Algebra.Order.{scale_le, le_cases, le_trans}
use Rattle.fixdec.specs.Algebra.OrderLaws.{le_same_left, whole_neg, zero_le_one}
use Rattle.fixdec.specs.Algebra.Within.{HasSize, within_nn, within_same, within_to, within_add, within_mul, within_zero}
use Rattle.fixdec.specs.Decimal.{ten_power}
use Rattle.fixdec.specs.Ends.{Ends}
use Rattle.fixdec.specs.Frac.{Frac, ◌≈◌, ◌≤Q◌, ◌+Q◌, ◌*Q◌, ◌-Q◌, neg_Q, whole, size}
use Rattle.fixdec.specs.Interval.{iv_size}
use Rattle.fixdec.specs.IntervalOperations.{operations}
use Rattle.fixdec.specs.Member.{IsMember, Symbols, units}
use Rattle.fixdec.specs.Operations.{Operations}
use Rattle.fixdec.specs.Steps.{OnVal, OnVal-then}
use Rattle.enclose.specs.IntervalLaws.{iv_size-encloses}
use Rattle.enclose.specs.IvLaws.{iv_member, iv_lawful}
use Rattle.lensmodel.specs.Equations.Residual.{IsWithin}
use Rattle.lensmodel.specs.Rows.Cells.{added_sizes, bound_row, window_row}
use Rattle.lensmodel.specs.Rows.Crossing.{Line}
use Rattle.lensmodel.specs.Rows.Laws.{Covers, widened}
use Rattle.lensmodel.specs.Rows.Preparation.{Prepared}
use Rattle.hitsolve.specs.Aspheres.Conic.{near_double_sag, double_sag}
use Rattle.hitsolve.specs.Aspheres.Meeting.{Asphere, Meets, polynomial, w_of, rho_at, u_at, HoldsAll, HoldsAsphere}
use Rattle.hitsolve.specs.Aspheres.Powers.{rho_nn, over_power_nn, over_power_le}

-- a fraction is within its size
pub size_holds : (x : Frac) → HasSize (size x) x
unfolding neg_Q
size_holds x = record {
  above = record { cross = scale_le x.num (pos (unsigned_abs x.num)) x.less (omega (arith, ints)) };
  below = record { cross = scale_le (neg_ℤ (pos (unsigned_abs x.num))) x.num x.less (omega (arith, ints)) };
}

-- two sides that are equal within eps differ by at most eps
pub within_diff : (eps a b : Frac) → IsWithin eps a b → HasSize eps (a -Q b)
within_diff eps a b h = record {
  above = linear_le (eps ∷ a ∷ b ∷ []) _ _ (search reads depth 16) (order zero_le_one h.below (search reads depth 16) no_fact) tt;
  below = linear_le (eps ∷ a ∷ b ∷ []) _ _ (search reads depth 16) (order zero_le_one h.above (search reads depth 16) no_fact) tt;
}

-- the sizes of some fractions, added up to a sum
abbrev pub added : Frac → List Frac → Frac
added sum [] = sum
added sum (b ∷ more) = added (sum +Q size b) more

abbrev sizes : List Frac → Frac
sizes [] = whole (pos 0)
sizes (b ∷ more) = size b +Q sizes more

added_is : (s : Frac) (b : List Frac) → s +Q sizes b ≈ added s b
added_is s [] = linear (s ∷ []) _ _ (search reads depth 16) no_fact tt
added_is s (b ∷ more) = ≈_trans (linear (s ∷ size b ∷ sizes more ∷ []) _ _ (search reads depth 16) no_fact tt) (added_is (s +Q size b) more)

-- a number from 0 to 1 has at most the size 1
unit_size : (u : Frac) → whole (pos 0) ≤Q u → u ≤Q whole (pos 1) → HasSize (whole (pos 1)) u
unit_size u n m = record {
  above = m;
  below = linear_le (u ∷ []) _ _ (search reads depth 16) (order zero_le_one n (search reads depth 16) (order zero_le_one zero_le_one (search reads depth 16) no_fact)) tt;
}

one_times : (x : Frac) → whole (pos 1) *Q x ≈ x
one_times x = linear (x ∷ []) _ _ (search reads depth 16) no_fact tt

-- on numbers from 0 to 1 the polynomial has at most the size of its coefficients together
polynomial_size : (b : List Frac) (u : Frac) → HasSize (whole (pos 1)) u → HasSize (sizes b) (polynomial b u)
polynomial_size [] u h = within_zero 0
polynomial_size (b ∷ more) u h = within_add (size_holds b) (within_to (one_times (sizes more)) (within_mul h (polynomial_size more u h)))

-- a factor of at least 1 makes no smaller
shrunk : (p x w : Frac) → whole (pos 0) ≤Q w → HasSize p (x *Q (whole (pos 1) +Q w)) → HasSize p x
shrunk p x w n h = record { above = up (le_cases (whole (pos 0)) x); below = down (le_cases (whole (pos 0)) x) }
  where
    room : whole (pos 0) ≤Q p
    room = within_nn h

    up : (whole (pos 0) ≤Q x) ⊎ (x ≤Q whole (pos 0)) → x ≤Q p
    up (inl g) = linear_le (p ∷ x ∷ w ∷ []) _ _ (search reads depth 16) (order zero_le_one h.above (search reads depth 16) (order n g (search reads depth 16) no_fact)) tt
    up (inr g) = le_trans g room

    down : (whole (pos 0) ≤Q x) ⊎ (x ≤Q whole (pos 0)) → neg_Q p ≤Q x
    down (inl g) = linear_le (p ∷ x ∷ []) _ _ (search reads depth 16) (order zero_le_one g (search reads depth 16) (order zero_le_one room (search reads depth 16) no_fact)) tt
    down (inr g) = linear_le (p ∷ x ∷ w ∷ []) _ _ (search reads depth 16) (order zero_le_one h.below (search reads depth 16) (order n g (search reads depth 16) no_fact)) tt

-- ---- the bound
-- what the sag of the conic is at most: |c| zone^2 and the residual
abbrev pub sag_bound : Frac → Asphere → Frac
sag_bound eps f = size f.c *Q f.zone2 +Q eps

module _ (eps : Frac) (f : Asphere) (l : Line Frac) (z zc : Frac) (m : Meets eps f l z zc) (unit : f.zone2 ≤Q ten_power f.power) where
  abbrev rho : Frac
  rho = rho_at l z

  abbrev u : Frac
  u = u_at f l z

  zone_size : HasSize f.zone2 rho
  zone_size = record {
    above = m.zone;
    below = linear_le (rho ∷ f.zone2 ∷ []) _ _ (search reads depth 16)
        (order zero_le_one m.zone (search reads depth 16) (order (zero_le_two) (rho_nn l z) (search reads depth 16) no_fact)) tt;
  }
    where
      zero_le_two : whole (pos 0) ≤Q whole (pos 2)
      zero_le_two = linear_le [] _ _ (search reads depth 16) (order zero_le_one zero_le_one (search reads depth 16) (order zero_le_one zero_le_one (search reads depth 16) no_fact)) tt

  -- the conic's sag is at most |c| rho and the residual
  pub conic_sag_size : HasSize (sag_bound eps f) zc
  conic_sag_size =
      let d = double_sag f.c f.kappa zc in
      let near = within_diff eps d (f.c *Q rho) (near_double_sag eps f.c f.kappa rho zc m.conic) in
      shrunk _ zc (w_of f zc) m.near_vertex
      (within_same (linear (f.c ∷ f.kappa ∷ zc ∷ rho ∷ []) _ _ (search reads depth 20 fits 4000) no_fact tt)
      (within_add (within_mul (size_holds f.c) zone_size) near))

  u_size : HasSize (whole (pos 1)) u
  u_size = unit_size u (over_power_nn f.power rho (rho_nn l z)) (over_power_le f.power rho (le_trans m.zone unit))

  abbrev pub bound : Frac
  bound = added (size f.c *Q f.zone2) f.b

  pub sag_size : HasSize (bound +Q eps +Q eps) z
  sag_size =
      let b = f.b in
      let P = polynomial b u in
      let C = size f.c *Q f.zone2 in
      let near = within_diff eps z (zc +Q u *Q P) m.sag in
      let poly : HasSize (whole (pos 1) *Q sizes b) (u *Q P) = within_mul u_size (polynomial_size b u u_size) in
      within_to (linear (C ∷ eps ∷ sizes b ∷ added C b ∷ []) _ _ (search reads depth 20 fits 4000) (fact (whole (pos 1)) (added_is C b) (search reads depth 20 fits 4000) no_fact) tt)
      (within_same (linear (z ∷ zc ∷ u ∷ P ∷ []) _ _ (search reads depth 20 fits 4000) no_fact tt)
      (within_add (within_add conic_sag_size poly) near))

-- eps may be added to what is widened
near_more : (eps x : Frac) → whole (pos 0) ≤Q eps → IsWithin eps (x +Q eps) x
near_more eps x n = record {
  above = linear_le (eps ∷ x ∷ []) _ _ (search reads depth 16) (order zero_le_one n (search reads depth 16) (order zero_le_one n (search reads depth 16) no_fact)) tt;
  below = linear_le (eps ∷ x ∷ []) _ _ (search reads depth 16) no_fact tt;
}

module _ (scale : ℕ) (sy : Symbols) (eps : Frac) (e : ℤ) (covers : Covers scale eps e) (f : Asphere) (l : Line Frac) (z zc : Frac) (m : Meets eps f l z zc)
    (unit : f.zone2 ≤Q ten_power f.power) (face : Prepared Ends) (zone2 : Ends) (hf : HoldsAsphere (iv_member scale) sy f face) (hz : IsMember scale zone2 f.zone2) where
  abbrev o : Operations Ends
  o = operations scale

  added_sizes-member : (sum : Ends) (s : Frac) (bs : List Ends) (vs : List Frac) → IsMember scale sum s → HoldsAll (iv_member scale) sy bs vs
      → OnVal (added_sizes scale sum bs) (λ r. IsMember scale r (added s vs))
  added_sizes-member sum s [] [] h k = h
  added_sizes-member sum s [] (v ∷ vs) h k = absurd k
  added_sizes-member sum s (b ∷ bs) [] h k = absurd k
  added_sizes-member sum s (b ∷ bs) (v ∷ vs) h k =
      OnVal-then (o.plus sum (iv_size b)) _ (λ r. IsMember scale r (s +Q size v)) _ ((iv_lawful scale).plus sy sum (iv_size b) s (size v) h (iv_size-encloses scale b v k.0)) λ r hr.
      added_sizes-member r (s +Q size v) bs vs hr k.1

  -- the residual isn't negative
  eps_nn : whole (pos 0) ≤Q eps
  eps_nn = within_nn (within_diff eps z _ m.sag)

  bound_row-member : OnVal (bound_row scale face zone2 e) (λ r. IsMember scale r (bound eps f l z zc m unit +Q eps +Q eps))
  bound_row-member =
      let B = bound eps f l z zc m unit in
      OnVal-then (o.times (iv_size face.c) zone2) _ (λ r. IsMember scale r (size f.c *Q f.zone2)) _
      ((iv_lawful scale).times sy (iv_size face.c) zone2 (size f.c) f.zone2 (iv_size-encloses scale face.c f.c hf.c) hz) λ r hr.
      OnVal-then (added_sizes scale r face.b) _ (λ s. IsMember scale s B) _ (added_sizes-member r (size f.c *Q f.zone2) face.b f.b hr hf.b) λ s hs.
      OnVal-then (o.widen s e) _ (λ t. IsMember scale t (B +Q eps)) _ (widened scale o (iv_member scale) (iv_lawful scale) sy eps e covers s B (B +Q eps) hs (near_more eps B eps_nn)) λ t ht.
      widened scale o (iv_member scale) (iv_lawful scale) sy eps e covers t (B +Q eps) (B +Q eps +Q eps) ht (near_more eps (B +Q eps) eps_nn)

  -- within the greatest end of what holds a size
  in_window : (b : Ends) (x p : Frac) → IsMember scale b p → HasSize p x → IsMember scale (record { lo = neg_ℤ b.hi; hi = b.hi }) x
  in_window b x p h k = record {
    low = le_same_left (whole_neg b.hi) (linear_le (x ∷ p ∷ units scale ∷ whole b.hi ∷ []) _ _ (search reads depth 20 fits 4000)
        (order (units_nn scale) k.below (search reads depth 20 fits 4000) (order zero_le_one h.high (search reads depth 20 fits 4000) no_fact)) tt);
    high = linear_le (x ∷ p ∷ units scale ∷ whole b.hi ∷ []) _ _ (search reads depth 20 fits 4000)
        (order (units_nn scale) k.above (search reads depth 20 fits 4000) (order zero_le_one h.high (search reads depth 20 fits 4000) no_fact)) tt;
  }

  pub window_row-member : OnVal (window_row scale face zone2 e) (λ a. IsMember scale a z)
  window_row-member =
      let B = bound eps f l z zc m unit in
      OnVal-then (bound_row scale face zone2 e) _ (λ r. IsMember scale r (B +Q eps +Q eps)) _ bound_row-member λ r hr.
      in_window r z (B +Q eps +Q eps) hr (sag_size eps f l z zc m unit)
