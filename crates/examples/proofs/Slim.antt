-- Sizes along a slanted ray in units of the residual, which is at most a thousandth of a millionth.
use Rattle.std.proofs.Common.{[], ◌∷◌, arith}
use Rattle.std.proofs.lemmas.Int.{ints}
use Rattle.std.specs.Prelude.{pos}
use Rattle.fixdec.specs.Frac.{Frac, ◌≈◌, ◌≤Q◌, ◌<Q◌, ◌+Q◌, ◌*Q◌, whole}
use Rattle.fixdec.specs.Algebra.FracLaws.{≈_sym}
use Rattle.fixdec.specs.Algebra.Linear.{linear_le, fact, order, no_fact, reads}
use Rattle.fixdec.specs.Algebra.OrderLaws.{zero_le_one, zero_le_whole, le_cancel, le_of_squares, mul_nn, lt_whole, le_of_lt}
use Rattle.fixdec.specs.Algebra.Within.{HasSize}
use Rattle.lensmodel.specs.Equations.Residual.{IsWithin}

module _ (eps : Frac) (some : whole (pos 0) ≤Q eps) (small : eps *Q whole (pos 1000000000) ≤Q whole (pos 1)) where
  -- the cosine along the axis, where one plus the squares of the slopes is 25/16
  module _ (k n : Frac) (slopes : k *Q whole (pos 16) ≈ whole (pos 25)) (length : IsWithin eps (n *Q n *Q k) (whole (pos 1))) (forwards : whole (pos 0) <Q n) where
    pub along_high : n *Q whole (pos 1000000) ≤Q whole (pos 800001)
    along_high =
        le_of_squares (mul_nn (le_of_lt forwards) (zero_le_whole 1000000)) (zero_le_whole 800001) (le_cancel (whole (pos 25)) (lt_whole (omega (arith, ints)))
        (linear_le (eps ∷ k ∷ n ∷ []) _ _ (search reads depth 20 fits 4000)
        (order (zero_le_whole 16000000000000) length.below (search reads depth 20 fits 4000)
        (order (zero_le_whole 16000) small (search reads depth 20 fits 4000)
        (fact (n *Q n *Q whole (pos 1000000000000)) slopes (search reads depth 20 fits 4000)
        (order (zero_le_whole 39984025) zero_le_one (search reads depth 20 fits 4000) no_fact)))) tt))

    pub along_low : whole (pos 799999) ≤Q n *Q whole (pos 1000000)
    along_low =
        le_of_squares (zero_le_whole 799999) (mul_nn (le_of_lt forwards) (zero_le_whole 1000000)) (le_cancel (whole (pos 25)) (lt_whole (omega (arith, ints)))
        (linear_le (eps ∷ k ∷ n ∷ []) _ _ (search reads depth 20 fits 4000)
        (order (zero_le_whole 16000000000000) length.above (search reads depth 20 fits 4000)
        (order (zero_le_whole 16000) small (search reads depth 20 fits 4000)
        (fact (n *Q n *Q whole (pos 1000000000000)) (≈_sym slopes) (search reads depth 20 fits 4000)
        (order (zero_le_whole 39983975) zero_le_one (search reads depth 20 fits 4000) no_fact)))) tt))

  -- a plane has hardly a sag
  pub sag_size : (c x v : Frac) → c ≈ whole (pos 0) → IsWithin eps (c *Q x) (whole (pos 2) *Q v) → HasSize eps v
  sag_size c x v flat h = record {
    above = le_cancel (whole (pos 2)) (lt_whole (omega (arith, ints)))
        (linear_le (eps ∷ c ∷ x ∷ v ∷ []) _ _ (search reads depth 20 fits 4000)
        (order zero_le_one h.above (search reads depth 20 fits 4000)
        (order zero_le_one some (search reads depth 20 fits 4000)
        (fact x (≈_sym flat) (search reads depth 20 fits 4000) no_fact))) tt);
    below = le_cancel (whole (pos 2)) (lt_whole (omega (arith, ints)))
        (linear_le (eps ∷ c ∷ x ∷ v ∷ []) _ _ (search reads depth 20 fits 4000)
        (order zero_le_one h.below (search reads depth 20 fits 4000)
        (order zero_le_one some (search reads depth 20 fits 4000)
        (fact x flat (search reads depth 20 fits 4000) no_fact))) tt);
  }

  -- the step to the plane at the vertex
  pub first_step : (n z0 d z1 v t : Frac) → whole (pos 0) <Q n → whole (pos 799999) ≤Q n *Q whole (pos 1000000) → z0 ≈ whole (pos 0) → d ≈ whole (pos 0)
      → z1 ≈ v → HasSize eps v → IsWithin eps (z0 +Q n *Q t) (d +Q z1) → HasSize (eps *Q whole (pos 4)) t
  first_step n z0 d z1 v t forwards low start apart sag flat line =
      let half : whole (pos 1) ≤Q n *Q whole (pos 2) = le_cancel (whole (pos 500000)) (lt_whole (omega (arith, ints)))
      (linear_le (n ∷ []) _ _ (search reads depth 20 fits 4000)
      (order zero_le_one low (search reads depth 20 fits 4000)
      (order (zero_le_whole 299999) zero_le_one (search reads depth 20 fits 4000) no_fact)) tt) in
      record {
        above = le_cancel n forwards
            (linear_le (eps ∷ n ∷ z0 ∷ d ∷ z1 ∷ v ∷ t ∷ []) _ _ (search reads depth 20 fits 4000)
            (order zero_le_one line.below (search reads depth 20 fits 4000)
            (order (mul_nn some (zero_le_whole 2)) half (search reads depth 20 fits 4000)
            (order zero_le_one flat.above (search reads depth 20 fits 4000)
            (fact (whole (pos 1)) start (search reads depth 20 fits 4000)
            (fact (whole (pos 1)) (≈_sym apart) (search reads depth 20 fits 4000)
            (fact (whole (pos 1)) (≈_sym sag) (search reads depth 20 fits 4000) no_fact)))))) tt);
        below = le_cancel n forwards
            (linear_le (eps ∷ n ∷ z0 ∷ d ∷ z1 ∷ v ∷ t ∷ []) _ _ (search reads depth 20 fits 4000)
            (order zero_le_one line.above (search reads depth 20 fits 4000)
            (order (mul_nn some (zero_le_whole 2)) half (search reads depth 20 fits 4000)
            (order zero_le_one flat.below (search reads depth 20 fits 4000)
            (fact (whole (pos 1)) (≈_sym start) (search reads depth 20 fits 4000)
            (fact (whole (pos 1)) apart (search reads depth 20 fits 4000)
            (fact (whole (pos 1)) sag (search reads depth 20 fits 4000) no_fact)))))) tt);
      }

  -- what is moved by so little is still small
  pub shifted : (x0 s x1 : Frac) → x0 ≈ whole (pos 0) → HasSize (whole (pos 1) *Q (eps *Q whole (pos 4))) s → IsWithin eps x1 (x0 +Q s) → HasSize (eps *Q whole (pos 5)) x1
  shifted x0 s x1 start size h = record {
    above = linear_le (eps ∷ x0 ∷ s ∷ x1 ∷ []) _ _ (search reads depth 20 fits 4000)
        (order zero_le_one h.below (search reads depth 20 fits 4000)
        (order zero_le_one size.above (search reads depth 20 fits 4000)
        (fact (whole (pos 1)) (≈_sym start) (search reads depth 20 fits 4000) no_fact))) tt;
    below = linear_le (eps ∷ x0 ∷ s ∷ x1 ∷ []) _ _ (search reads depth 20 fits 4000)
        (order zero_le_one h.above (search reads depth 20 fits 4000)
        (order zero_le_one size.below (search reads depth 20 fits 4000)
        (fact (whole (pos 1)) start (search reads depth 20 fits 4000) no_fact))) tt;
  }

  -- the step from the vertex to the image
  module _ (n z1 d z2 v1 v2 t : Frac) (forwards : whole (pos 0) <Q n) (high : n *Q whole (pos 1000000) ≤Q whole (pos 800001)) (low : whole (pos 799999) ≤Q n *Q whole (pos 1000000))
      (first : z1 ≈ v1) (apart : d ≈ whole (pos 4)) (second : z2 ≈ v2) (flat1 : HasSize eps v1) (flat2 : HasSize eps v2)
      (line : IsWithin eps (z1 +Q n *Q t) (d +Q z2)) where
    pub run : IsWithin (eps *Q whole (pos 3)) (n *Q t) (whole (pos 4))
    run = record {
      above = linear_le (eps ∷ n ∷ z1 ∷ d ∷ z2 ∷ v1 ∷ v2 ∷ t ∷ []) _ _ (search reads depth 20 fits 4000)
          (order zero_le_one line.above (search reads depth 20 fits 4000)
          (order zero_le_one flat1.above (search reads depth 20 fits 4000)
          (order zero_le_one flat2.below (search reads depth 20 fits 4000)
          (fact (whole (pos 1)) (≈_sym first) (search reads depth 20 fits 4000)
          (fact (whole (pos 1)) apart (search reads depth 20 fits 4000)
          (fact (whole (pos 1)) second (search reads depth 20 fits 4000) no_fact)))))) tt;
      below = linear_le (eps ∷ n ∷ z1 ∷ d ∷ z2 ∷ v1 ∷ v2 ∷ t ∷ []) _ _ (search reads depth 20 fits 4000)
          (order zero_le_one line.below (search reads depth 20 fits 4000)
          (order zero_le_one flat1.below (search reads depth 20 fits 4000)
          (order zero_le_one flat2.above (search reads depth 20 fits 4000)
          (fact (whole (pos 1)) first (search reads depth 20 fits 4000)
          (fact (whole (pos 1)) (≈_sym apart) (search reads depth 20 fits 4000)
          (fact (whole (pos 1)) (≈_sym second) (search reads depth 20 fits 4000) no_fact)))))) tt;
    }

    -- its length is between 4.99999 and 5.00001
    pub run_high : t *Q whole (pos 100000) ≤Q whole (pos 500001)
    run_high = le_cancel n forwards (le_cancel (whole (pos 1000000)) (lt_whole (omega (arith, ints)))
        (linear_le (eps ∷ n ∷ t ∷ []) _ _ (search reads depth 20 fits 4000)
        (order (zero_le_whole 100000000000) run.below (search reads depth 20 fits 4000)
        (order (zero_le_whole 500001) low (search reads depth 20 fits 4000)
        (order (zero_le_whole 300) small (search reads depth 20 fits 4000)
        (order (zero_le_whole 299699) zero_le_one (search reads depth 20 fits 4000) no_fact)))) tt))

    pub run_low : whole (pos 499999) ≤Q t *Q whole (pos 100000)
    run_low = le_cancel n forwards (le_cancel (whole (pos 1000000)) (lt_whole (omega (arith, ints)))
        (linear_le (eps ∷ n ∷ t ∷ []) _ _ (search reads depth 20 fits 4000)
        (order (zero_le_whole 100000000000) run.above (search reads depth 20 fits 4000)
        (order (zero_le_whole 499999) high (search reads depth 20 fits 4000)
        (order (zero_le_whole 300) small (search reads depth 20 fits 4000)
        (order (zero_le_whole 299701) zero_le_one (search reads depth 20 fits 4000) no_fact)))) tt))
