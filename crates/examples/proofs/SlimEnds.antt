-- The printed intervals of a slanted ray hold what lies so near.
use Rattle.std.proofs.Common.{ℕ, ◌≤◌, [], ◌∷◌, arith}
use Rattle.std.proofs.lemmas.Int.{ints}
use Rattle.std.specs.Prelude.{ℤ, pos, negsuc, ◌≤ℤ◌}
use Rattle.fixdec.specs.Ends.{Ends}
use Rattle.fixdec.specs.Frac.{Frac, ◌≈◌, ◌≤Q◌, ◌+Q◌, ◌-Q◌, ◌*Q◌, neg_Q, whole}
use Rattle.fixdec.specs.Algebra.FracLaws.{≈_sym}
use Rattle.fixdec.specs.Algebra.Linear.{linear_le, fact, order, no_fact, reads}
use Rattle.fixdec.specs.Member.{IsMember}
use Rattle.fixdec.specs.Algebra.Order.{le_trans, le_whole}
use Rattle.fixdec.specs.Algebra.OrderLaws.{zero_le_one, zero_le_whole, le_cancel, le_mul_left, le_along, square_nn, lt_whole}
use Rattle.fixdec.specs.Algebra.Within.{HasSize, within_mul, within_more}
use Rattle.lensmodel.specs.Equations.Residual.{IsWithin}
use Rattle.examples.specs.WorkedRow.{span}
use Rattle.examples.proofs.Along.{keep, times}

-- an interval of millionths that holds a number holds what is equal to it
pub member_same : {e : Ends} {u v : Frac} → u ≈ v → IsMember 6 e u → IsMember 6 e v
member_same p m = record { low = le_along keep (times p keep) m.low; high = le_along (times p keep) keep m.high }

-- so does a wider one
pub member_more : {a b c d : ℤ} {v : Frac} → c ≤ℤ a → b ≤ℤ d → IsMember 6 (span a b) v → IsMember 6 (span c d) v
member_more p q m = record { low = le_trans (le_whole p) m.low; high = le_trans m.high (le_whole q) }

module _ (eps : Frac) (some : whole (pos 0) ≤Q eps) (small : eps *Q whole (pos 1000000000) ≤Q whole (pos 1)) where
  -- at most a hundred residuals are within a millionth
  millionth : (v : Frac) → HasSize (eps *Q whole (pos 100)) v → IsMember 6 (span (negsuc 0) (pos 1)) v
  millionth v h = record {
    low = le_cancel (whole (pos 1000)) (lt_whole (omega (arith, ints)))
        (linear_le (eps ∷ v ∷ []) _ _ (search reads depth 20 fits 4000)
        (order (zero_le_whole 1000000000) h.below (search reads depth 20 fits 4000)
        (order (zero_le_whole 100) small (search reads depth 20 fits 4000)
        (order (zero_le_whole 900) zero_le_one (search reads depth 20 fits 4000) no_fact))) tt);
    high = le_cancel (whole (pos 1000)) (lt_whole (omega (arith, ints)))
        (linear_le (eps ∷ v ∷ []) _ _ (search reads depth 20 fits 4000)
        (order (zero_le_whole 1000000000) h.above (search reads depth 20 fits 4000)
        (order (zero_le_whole 100) small (search reads depth 20 fits 4000)
        (order (zero_le_whole 900) zero_le_one (search reads depth 20 fits 4000) no_fact))) tt);
  }

  pub near_zero : (k : ℕ) (v : Frac) → k ≤ 100 → HasSize (eps *Q whole (pos k)) v → IsMember 6 (span (negsuc 0) (pos 1)) v
  near_zero k v lt h = millionth v (within_more (le_mul_left eps some (le_whole (omega (arith, ints)))) h)

  -- the square of the distance from the axis, at the vertex
  pub rho_at_vertex : (x y rho : Frac) → rho ≈ x *Q x +Q y *Q y → IsMember 6 (span (negsuc 0) (pos 1)) x → IsMember 6 (span (negsuc 0) (pos 1)) y
      → IsMember 6 (span (pos 0) (pos 2)) rho
  rho_at_vertex x y rho is hx hy =
      let sx : HasSize (whole (pos 1)) (x *Q whole (pos 1000000)) = record { above = hx.high; below = unit_low hx.low } in
      let sy : HasSize (whole (pos 1)) (y *Q whole (pos 1000000)) = record { above = hy.high; below = unit_low hy.low } in
      let qx = within_mul sx sx in
      let qy = within_mul sy sy in
      record {
        low = linear_le (x ∷ y ∷ rho ∷ []) _ _ (search reads depth 20 fits 4000)
            (order (zero_le_whole 1000000) (square_nn x) (search reads depth 20 fits 4000)
            (order (zero_le_whole 1000000) (square_nn y) (search reads depth 20 fits 4000)
            (fact (whole (pos 1000000)) is (search reads depth 20 fits 4000) no_fact))) tt;
        high = le_cancel (whole (pos 1000000)) (lt_whole (omega (arith, ints)))
            (linear_le (x ∷ y ∷ rho ∷ []) _ _ (search reads depth 20 fits 4000)
            (order zero_le_one qx.above (search reads depth 20 fits 4000)
            (order zero_le_one qy.above (search reads depth 20 fits 4000)
            (fact (whole (pos 1000000000000)) (≈_sym is) (search reads depth 20 fits 4000)
            (order (zero_le_whole 1999998) zero_le_one (search reads depth 20 fits 4000) no_fact)))) tt);
      }
    where
      unit_low : {v : Frac} → whole (negsuc 0) ≤Q v → neg_Q (whole (pos 1)) ≤Q v
      unit_low {v} p = linear_le (v ∷ []) _ _ (search reads depth 20 fits 4000)
          (order zero_le_one p (search reads depth 20 fits 4000) no_fact) tt

  -- the heading in y
  pub heading_m : (q n m : Frac) → q *Q whole (pos 4) ≈ whole (pos 3) → n *Q whole (pos 1000000) ≤Q whole (pos 800001) → whole (pos 799999) ≤Q n *Q whole (pos 1000000)
      → IsWithin eps m (q *Q n) → IsMember 6 (span (pos 599998) (pos 600002)) m
  heading_m q n m is high low h = record {
    low = le_cancel (whole (pos 4000)) (lt_whole (omega (arith, ints)))
        (linear_le (eps ∷ q ∷ n ∷ m ∷ []) _ _ (search reads depth 20 fits 4000)
        (order (zero_le_whole 4000000000) h.above (search reads depth 20 fits 4000)
        (order (zero_le_whole 3000) low (search reads depth 20 fits 4000)
        (order (zero_le_whole 4) small (search reads depth 20 fits 4000)
        (fact (n *Q whole (pos 1000000000)) is (search reads depth 20 fits 4000)
        (order (zero_le_whole 4996) zero_le_one (search reads depth 20 fits 4000) no_fact))))) tt);
    high = le_cancel (whole (pos 4000)) (lt_whole (omega (arith, ints)))
        (linear_le (eps ∷ q ∷ n ∷ m ∷ []) _ _ (search reads depth 20 fits 4000)
        (order (zero_le_whole 4000000000) h.below (search reads depth 20 fits 4000)
        (order (zero_le_whole 3000) high (search reads depth 20 fits 4000)
        (order (zero_le_whole 4) small (search reads depth 20 fits 4000)
        (fact (n *Q whole (pos 1000000000)) (≈_sym is) (search reads depth 20 fits 4000)
        (order (zero_le_whole 4996) zero_le_one (search reads depth 20 fits 4000) no_fact))))) tt);
  }

  pub m_size : (m : Frac) → IsMember 6 (span (pos 599998) (pos 600002)) m → HasSize (whole (pos 1)) m
  m_size m h = record {
    above = le_cancel (whole (pos 1000000)) (lt_whole (omega (arith, ints)))
        (linear_le (m ∷ []) _ _ (search reads depth 20 fits 4000)
        (order zero_le_one h.high (search reads depth 20 fits 4000)
        (order (zero_le_whole 399998) zero_le_one (search reads depth 20 fits 4000) no_fact)) tt);
    below = le_cancel (whole (pos 1000000)) (lt_whole (omega (arith, ints)))
        (linear_le (m ∷ []) _ _ (search reads depth 20 fits 4000)
        (order zero_le_one h.low (search reads depth 20 fits 4000)
        (order (zero_le_whole 1599998) zero_le_one (search reads depth 20 fits 4000) no_fact)) tt);
  }

  -- at the image, t being the length of the step there
  module _ (t : Frac) (high : t *Q whole (pos 100000) ≤Q whole (pos 500001)) (low : whole (pos 499999) ≤Q t *Q whole (pos 100000)) where
    t_size : HasSize (whole (pos 6)) t
    t_size = record {
      above = le_cancel (whole (pos 100000)) (lt_whole (omega (arith, ints)))
          (linear_le (t ∷ []) _ _ (search reads depth 20 fits 4000)
          (order zero_le_one high (search reads depth 20 fits 4000)
          (order (zero_le_whole 99999) zero_le_one (search reads depth 20 fits 4000) no_fact)) tt);
      below = le_cancel (whole (pos 100000)) (lt_whole (omega (arith, ints)))
          (linear_le (t ∷ []) _ _ (search reads depth 20 fits 4000)
          (order zero_le_one low (search reads depth 20 fits 4000)
          (order (zero_le_whole 1099999) zero_le_one (search reads depth 20 fits 4000) no_fact)) tt);
    }

    pub image_x : (x1 l x2 : Frac) → HasSize (eps *Q whole (pos 5)) x1 → HasSize eps l → IsWithin eps x2 (x1 +Q l *Q t) → HasSize (eps *Q whole (pos 12)) x2
    image_x x1 l x2 hx hl h =
        let s = within_mul hl t_size in
        record {
          above = linear_le (eps ∷ x1 ∷ l ∷ x2 ∷ t ∷ []) _ _ (search reads depth 20 fits 4000)
              (order zero_le_one h.below (search reads depth 20 fits 4000)
              (order zero_le_one hx.above (search reads depth 20 fits 4000)
              (order zero_le_one s.above (search reads depth 20 fits 4000) no_fact))) tt;
          below = linear_le (eps ∷ x1 ∷ l ∷ x2 ∷ t ∷ []) _ _ (search reads depth 20 fits 4000)
              (order zero_le_one h.above (search reads depth 20 fits 4000)
              (order zero_le_one hx.below (search reads depth 20 fits 4000)
              (order zero_le_one s.below (search reads depth 20 fits 4000) no_fact))) tt;
        }

    pub image_y : (q n m y1 y2 : Frac) → q *Q whole (pos 4) ≈ whole (pos 3) → IsWithin (eps *Q whole (pos 3)) (n *Q t) (whole (pos 4)) → IsWithin eps m (q *Q n)
        → HasSize (eps *Q whole (pos 5)) y1 → IsWithin eps y2 (y1 +Q m *Q t) → IsMember 6 (span (pos 2999999) (pos 3000001)) y2
    image_y q n m y1 y2 is run slope hy h =
        let off : HasSize eps (m -Q q *Q n) = record {
          above = linear_le (eps ∷ m ∷ q ∷ n ∷ []) _ _ (search reads depth 20 fits 4000)
              (order zero_le_one slope.below (search reads depth 20 fits 4000) no_fact) tt;
          below = linear_le (eps ∷ m ∷ q ∷ n ∷ []) _ _ (search reads depth 20 fits 4000)
              (order zero_le_one slope.above (search reads depth 20 fits 4000) no_fact) tt;
        } in
        let s = within_mul off t_size in
        record {
          low = le_cancel (whole (pos 4000)) (lt_whole (omega (arith, ints)))
              (linear_le (eps ∷ q ∷ n ∷ m ∷ y1 ∷ y2 ∷ t ∷ []) _ _ (search reads depth 20 fits 4000)
              (order (zero_le_whole 4000000000) h.above (search reads depth 20 fits 4000)
              (order (zero_le_whole 4000000000) hy.below (search reads depth 20 fits 4000)
              (order (zero_le_whole 4000000000) s.below (search reads depth 20 fits 4000)
              (order (zero_le_whole 3000000000) run.above (search reads depth 20 fits 4000)
              (order (zero_le_whole 57) small (search reads depth 20 fits 4000)
              (fact (n *Q t *Q whole (pos 1000000000)) is (search reads depth 20 fits 4000)
              (order (zero_le_whole 3943) zero_le_one (search reads depth 20 fits 4000) no_fact))))))) tt);
          high = le_cancel (whole (pos 4000)) (lt_whole (omega (arith, ints)))
              (linear_le (eps ∷ q ∷ n ∷ m ∷ y1 ∷ y2 ∷ t ∷ []) _ _ (search reads depth 20 fits 4000)
              (order (zero_le_whole 4000000000) h.below (search reads depth 20 fits 4000)
              (order (zero_le_whole 4000000000) hy.above (search reads depth 20 fits 4000)
              (order (zero_le_whole 4000000000) s.above (search reads depth 20 fits 4000)
              (order (zero_le_whole 3000000000) run.below (search reads depth 20 fits 4000)
              (order (zero_le_whole 57) small (search reads depth 20 fits 4000)
              (fact (n *Q t *Q whole (pos 1000000000)) (≈_sym is) (search reads depth 20 fits 4000)
              (order (zero_le_whole 3943) zero_le_one (search reads depth 20 fits 4000) no_fact))))))) tt);
        }

    pub image_path : (index p1 p2 : Frac) → index ≈ whole (pos 1) → HasSize (eps *Q whole (pos 5)) p1 → IsWithin eps p2 (p1 +Q index *Q t)
        → IsMember 6 (span (pos 4999985) (pos 5000016)) p2
    image_path index p1 p2 air hp h = record {
      low = le_cancel (whole (pos 1000)) (lt_whole (omega (arith, ints)))
          (linear_le (eps ∷ index ∷ p1 ∷ p2 ∷ t ∷ []) _ _ (search reads depth 20 fits 4000)
          (order (zero_le_whole 1000000000) h.above (search reads depth 20 fits 4000)
          (order (zero_le_whole 1000000000) hp.below (search reads depth 20 fits 4000)
          (order (zero_le_whole 10000) low (search reads depth 20 fits 4000)
          (order (zero_le_whole 6) small (search reads depth 20 fits 4000)
          (fact (t *Q whole (pos 1000000000)) air (search reads depth 20 fits 4000)
          (order (zero_le_whole 4994) zero_le_one (search reads depth 20 fits 4000) no_fact)))))) tt);
      high = le_cancel (whole (pos 1000)) (lt_whole (omega (arith, ints)))
          (linear_le (eps ∷ index ∷ p1 ∷ p2 ∷ t ∷ []) _ _ (search reads depth 20 fits 4000)
          (order (zero_le_whole 1000000000) h.below (search reads depth 20 fits 4000)
          (order (zero_le_whole 1000000000) hp.above (search reads depth 20 fits 4000)
          (order (zero_le_whole 10000) high (search reads depth 20 fits 4000)
          (order (zero_le_whole 6) small (search reads depth 20 fits 4000)
          (fact (t *Q whole (pos 1000000000)) (≈_sym air) (search reads depth 20 fits 4000)
          (order (zero_le_whole 5994) zero_le_one (search reads depth 20 fits 4000) no_fact)))))) tt);
    }
