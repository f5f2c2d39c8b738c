-- Sizes along a ray from the vertex of a plane: what the equations leave where the residual is small.
use Rattle.std.proofs.Common.{[], ◌∷◌, arith}
use Rattle.std.proofs.lemmas.Int.{ints}
use Rattle.std.specs.Prelude.{pos}
use Rattle.fixdec.specs.Frac.{Frac, ◌≈◌, ◌≤Q◌, ◌<Q◌, ◌+Q◌, ◌*Q◌, ◌-Q◌, neg_Q, whole}
use Rattle.fixdec.specs.Algebra.FracLaws.{≈_sym}
use Rattle.fixdec.specs.Algebra.Linear.{linear_le, fact, order, no_fact, reads}
use Rattle.fixdec.specs.Algebra.OrderLaws.{zero_le_one, zero_le_whole, le_cancel, le_of_squares, mul_nn, lt_whole, le_of_lt}
use Rattle.fixdec.specs.Algebra.Within.{HasSize}
use Rattle.lensmodel.specs.Equations.Residual.{IsWithin}

module _ (eps : Frac) (small : eps *Q whole (pos 1000) ≤Q whole (pos 1)) where
  -- the cosine along the axis, where one plus the squares of the slopes is 61/25
  module _ (k n : Frac) (slopes : k *Q whole (pos 25) ≈ whole (pos 61)) (length : IsWithin eps (n *Q n *Q k) (whole (pos 1))) (forwards : whole (pos 0) <Q n) where
    pub axial_high : n *Q whole (pos 20) ≤Q whole (pos 13)
    axial_high =
        le_of_squares (mul_nn (le_of_lt forwards) (zero_le_whole 20)) (zero_le_whole 13) (le_cancel (whole (pos 61)) (lt_whole (omega (arith, ints)))
        (linear_le (eps ∷ k ∷ n ∷ []) _ _ (search reads depth 20 fits 4000)
        (order (zero_le_whole 10000) length.below (search reads depth 20 fits 4000)
        (order (zero_le_whole 10) small (search reads depth 20 fits 4000)
        (fact (n *Q n *Q whole (pos 400)) slopes (search reads depth 20 fits 4000)
        (order (zero_le_whole 299) zero_le_one (search reads depth 20 fits 4000) no_fact)))) tt))

    pub axial_low : whole (pos 1) ≤Q n *Q whole (pos 2)
    axial_low =
        le_of_squares zero_le_one (mul_nn (le_of_lt forwards) (zero_le_whole 2)) (le_cancel (whole (pos 610)) (lt_whole (omega (arith, ints)))
        (linear_le (eps ∷ k ∷ n ∷ []) _ _ (search reads depth 20 fits 4000)
        (order (zero_le_whole 1000) length.above (search reads depth 20 fits 4000)
        (order zero_le_one small (search reads depth 20 fits 4000)
        (fact (n *Q n *Q whole (pos 40)) (≈_sym slopes) (search reads depth 20 fits 4000)
        (order (zero_le_whole 389) zero_le_one (search reads depth 20 fits 4000) no_fact)))) tt))

  -- the cosines across the axis, of slopes 0 and 6/5
  module _ (n : Frac) (high : n *Q whole (pos 20) ≤Q whole (pos 13)) (low : whole (pos 1) ≤Q n *Q whole (pos 2)) where
    pub flat_size : (p l : Frac) → p ≈ whole (pos 0) → IsWithin eps l (p *Q n) → HasSize (whole (pos 1)) l
    flat_size p l zero h = record {
      above = le_cancel (whole (pos 1000)) (lt_whole (omega (arith, ints)))
          (linear_le (eps ∷ n ∷ p ∷ l ∷ []) _ _ (search reads depth 20 fits 4000)
          (order (zero_le_whole 1000) h.below (search reads depth 20 fits 4000)
          (order zero_le_one small (search reads depth 20 fits 4000)
          (fact (n *Q whole (pos 1000)) (≈_sym zero) (search reads depth 20 fits 4000)
          (order (zero_le_whole 999) zero_le_one (search reads depth 20 fits 4000) no_fact)))) tt);
      below = le_cancel (whole (pos 1000)) (lt_whole (omega (arith, ints)))
          (linear_le (eps ∷ n ∷ p ∷ l ∷ []) _ _ (search reads depth 20 fits 4000)
          (order (zero_le_whole 1000) h.above (search reads depth 20 fits 4000)
          (order zero_le_one small (search reads depth 20 fits 4000)
          (fact (n *Q whole (pos 1000)) zero (search reads depth 20 fits 4000)
          (order (zero_le_whole 999) zero_le_one (search reads depth 20 fits 4000) no_fact)))) tt);
    }

    pub steep_size : (q m : Frac) → q *Q whole (pos 5) ≈ whole (pos 6) → IsWithin eps m (q *Q n) → HasSize (whole (pos 1)) m
    steep_size q m is h = record {
      above = le_cancel (whole (pos 1000)) (lt_whole (omega (arith, ints)))
          (linear_le (eps ∷ n ∷ q ∷ m ∷ []) _ _ (search reads depth 20 fits 4000)
          (order (zero_le_whole 1000) h.below (search reads depth 20 fits 4000)
          (order zero_le_one small (search reads depth 20 fits 4000)
          (order (zero_le_whole 60) high (search reads depth 20 fits 4000)
          (fact (n *Q whole (pos 200)) (≈_sym is) (search reads depth 20 fits 4000)
          (order (zero_le_whole 219) zero_le_one (search reads depth 20 fits 4000) no_fact))))) tt);
      below = le_cancel (whole (pos 1000)) (lt_whole (omega (arith, ints)))
          (linear_le (eps ∷ n ∷ q ∷ m ∷ []) _ _ (search reads depth 20 fits 4000)
          (order (zero_le_whole 1000) h.above (search reads depth 20 fits 4000)
          (order zero_le_one small (search reads depth 20 fits 4000)
          (order (zero_le_whole 600) low (search reads depth 20 fits 4000)
          (fact (n *Q whole (pos 200)) is (search reads depth 20 fits 4000)
          (order (zero_le_whole 1599) zero_le_one (search reads depth 20 fits 4000) no_fact))))) tt);
    }

  -- a plane has no sag
  module _ (c x v : Frac) (plane : c ≈ whole (pos 0)) (conic : IsWithin eps (c *Q x) (whole (pos 2) *Q v)) where
    pub sag_high : v *Q whole (pos 4) ≤Q whole (pos 1)
    sag_high = le_cancel (whole (pos 1000)) (lt_whole (omega (arith, ints)))
        (linear_le (eps ∷ c ∷ x ∷ v ∷ []) _ _ (search reads depth 20 fits 4000)
        (order (zero_le_whole 2000) conic.above (search reads depth 20 fits 4000)
        (order (zero_le_whole 2) small (search reads depth 20 fits 4000)
        (fact (x *Q whole (pos 2000)) (≈_sym plane) (search reads depth 20 fits 4000)
        (order (zero_le_whole 998) zero_le_one (search reads depth 20 fits 4000) no_fact)))) tt)

    pub sag_low : neg_Q (whole (pos 1)) ≤Q v *Q whole (pos 4)
    sag_low = le_cancel (whole (pos 1000)) (lt_whole (omega (arith, ints)))
        (linear_le (eps ∷ c ∷ x ∷ v ∷ []) _ _ (search reads depth 20 fits 4000)
        (order (zero_le_whole 2000) conic.below (search reads depth 20 fits 4000)
        (order (zero_le_whole 2) small (search reads depth 20 fits 4000)
        (fact (x *Q whole (pos 2000)) plane (search reads depth 20 fits 4000)
        (order (zero_le_whole 998) zero_le_one (search reads depth 20 fits 4000) no_fact)))) tt)

  -- so the step from the vertex to the plane is short
  module _ (n z0 d z1 v t : Frac) (forwards : whole (pos 0) <Q n) (low : whole (pos 1) ≤Q n *Q whole (pos 2))
      (start : z0 ≈ whole (pos 0)) (apart : d ≈ whole (pos 0)) (sag : z1 ≈ v)
      (high : v *Q whole (pos 4) ≤Q whole (pos 1)) (deep : neg_Q (whole (pos 1)) ≤Q v *Q whole (pos 4))
      (line : IsWithin eps (z0 +Q n *Q t) (d +Q z1)) where
    pub step_size : HasSize (whole (pos 1)) t
    step_size = record {
      above = le_cancel n forwards (le_cancel (whole (pos 1000)) (lt_whole (omega (arith, ints)))
          (linear_le (eps ∷ n ∷ z0 ∷ d ∷ z1 ∷ v ∷ t ∷ []) _ _ (search reads depth 20 fits 4000)
          (order (zero_le_whole 1000) line.below (search reads depth 20 fits 4000)
          (order (zero_le_whole 500) low (search reads depth 20 fits 4000)
          (order zero_le_one small (search reads depth 20 fits 4000)
          (order (zero_le_whole 250) high (search reads depth 20 fits 4000)
          (fact (whole (pos 1000)) start (search reads depth 20 fits 4000)
          (fact (whole (pos 1000)) (≈_sym apart) (search reads depth 20 fits 4000)
          (fact (whole (pos 1000)) (≈_sym sag) (search reads depth 20 fits 4000)
          (order (zero_le_whole 249) zero_le_one (search reads depth 20 fits 4000) no_fact)))))))) tt));
      below = le_cancel n forwards (le_cancel (whole (pos 1000)) (lt_whole (omega (arith, ints)))
          (linear_le (eps ∷ n ∷ z0 ∷ d ∷ z1 ∷ v ∷ t ∷ []) _ _ (search reads depth 20 fits 4000)
          (order (zero_le_whole 1000) line.above (search reads depth 20 fits 4000)
          (order (zero_le_whole 500) low (search reads depth 20 fits 4000)
          (order zero_le_one small (search reads depth 20 fits 4000)
          (order (zero_le_whole 250) deep (search reads depth 20 fits 4000)
          (fact (whole (pos 1000)) (≈_sym start) (search reads depth 20 fits 4000)
          (fact (whole (pos 1000)) apart (search reads depth 20 fits 4000)
          (fact (whole (pos 1000)) sag (search reads depth 20 fits 4000)
          (order (zero_le_whole 249) zero_le_one (search reads depth 20 fits 4000) no_fact)))))))) tt));
    }

  -- and the point on the plane is near the axis
  pub point_size : (x0 s x1 : Frac) → x0 ≈ whole (pos 0) → HasSize (whole (pos 1) *Q whole (pos 1)) s → IsWithin eps x1 (x0 +Q s) → HasSize (whole (pos 2)) x1
  point_size x0 s x1 start size h = record {
    above = le_cancel (whole (pos 1000)) (lt_whole (omega (arith, ints)))
        (linear_le (eps ∷ x0 ∷ s ∷ x1 ∷ []) _ _ (search reads depth 20 fits 4000)
        (order (zero_le_whole 1000) h.below (search reads depth 20 fits 4000)
        (order (zero_le_whole 1000) size.above (search reads depth 20 fits 4000)
        (order zero_le_one small (search reads depth 20 fits 4000)
        (fact (whole (pos 1000)) (≈_sym start) (search reads depth 20 fits 4000)
        (order (zero_le_whole 999) zero_le_one (search reads depth 20 fits 4000) no_fact))))) tt);
    below = le_cancel (whole (pos 1000)) (lt_whole (omega (arith, ints)))
        (linear_le (eps ∷ x0 ∷ s ∷ x1 ∷ []) _ _ (search reads depth 20 fits 4000)
        (order (zero_le_whole 1000) h.above (search reads depth 20 fits 4000)
        (order (zero_le_whole 1000) size.below (search reads depth 20 fits 4000)
        (order zero_le_one small (search reads depth 20 fits 4000)
        (fact (whole (pos 1000)) start (search reads depth 20 fits 4000)
        (order (zero_le_whole 999) zero_le_one (search reads depth 20 fits 4000) no_fact))))) tt);
  }

  -- the normal of a plane hardly leans
  pub lean_size : (c f v w e : Frac) → c ≈ whole (pos 0) → w ≈ whole (pos 1) -Q f *Q c *Q v
      → IsWithin eps (e *Q w) (c +Q whole (pos 2) *Q w *Q whole (pos 0)) → HasSize eps e
  lean_size c f v w e plane is h = record {
    above = linear_le (eps ∷ c ∷ f ∷ v ∷ w ∷ e ∷ []) _ _ (search reads depth 20 fits 4000)
        (order zero_le_one h.below (search reads depth 20 fits 4000)
        (fact (whole (pos 1)) (≈_sym plane) (search reads depth 20 fits 4000)
        (fact e is (search reads depth 20 fits 4000)
        (fact (e *Q f *Q v) (≈_sym plane) (search reads depth 20 fits 4000) no_fact)))) tt;
    below = linear_le (eps ∷ c ∷ f ∷ v ∷ w ∷ e ∷ []) _ _ (search reads depth 20 fits 4000)
        (order zero_le_one h.above (search reads depth 20 fits 4000)
        (fact (whole (pos 1)) plane (search reads depth 20 fits 4000)
        (fact e (≈_sym is) (search reads depth 20 fits 4000)
        (fact (e *Q f *Q v) plane (search reads depth 20 fits 4000) no_fact)))) tt;
  }
