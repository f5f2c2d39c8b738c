-- The printed interval of a slanted ray's distance from the axis, at the image.
use Rattle.std.proofs.Common.{[], ◌∷◌, arith}
use Rattle.std.proofs.lemmas.Int.{ints}
use Rattle.std.specs.Prelude.{pos, negsuc}
use Rattle.fixdec.specs.Frac.{Frac, ◌≈◌, ◌+Q◌, ◌*Q◌, whole}
use Rattle.fixdec.specs.Algebra.FracLaws.{≈_sym}
use Rattle.fixdec.specs.Algebra.Linear.{linear_le, fact, order, no_fact, reads}
use Rattle.fixdec.specs.Member.{IsMember}
use Rattle.fixdec.specs.Algebra.Order.{le_trans}
use Rattle.fixdec.specs.Algebra.OrderLaws.{zero_le_one, zero_le_whole, le_cancel, le_mul_both, square_nn, lt_whole}
use Rattle.fixdec.specs.Algebra.Within.{HasSize, within_mul}
use Rattle.examples.specs.WorkedRow.{span}

-- the square of the distance from the axis, at the image
pub rho_at_image : (x y rho : Frac) → rho ≈ x *Q x +Q y *Q y → IsMember 6 (span (negsuc 0) (pos 1)) x → IsMember 6 (span (pos 2999999) (pos 3000001)) y
    → IsMember 6 (span (pos 8999862) (pos 9000140)) rho
rho_at_image x y rho is hx hy =
    let sx : HasSize (whole (pos 1)) (x *Q whole (pos 1000000)) = record {
      above = hx.high;
      below = linear_le (x ∷ []) _ _ (search reads depth 20 fits 4000)
          (order zero_le_one hx.low (search reads depth 20 fits 4000) no_fact) tt;
    } in
    let qx = within_mul sx sx in
    let least = le_mul_both (zero_le_whole 2999999) (le_trans (zero_le_whole 2999999) hy.low) hy.low hy.low in
    let most = le_mul_both (le_trans (zero_le_whole 2999999) hy.low) (zero_le_whole 3000001) hy.high hy.high in
    record {
      low = le_cancel (whole (pos 1000000)) (lt_whole (omega (arith, ints)))
          (linear_le (x ∷ y ∷ rho ∷ []) _ _ (search reads depth 20 fits 4000)
          (order zero_le_one least (search reads depth 20 fits 4000)
          (order (zero_le_whole 1000000000000) (square_nn x) (search reads depth 20 fits 4000)
          (fact (whole (pos 1000000000000)) is (search reads depth 20 fits 4000)
          (order (zero_le_whole 132000001) zero_le_one (search reads depth 20 fits 4000) no_fact)))) tt);
      high = le_cancel (whole (pos 1000000)) (lt_whole (omega (arith, ints)))
          (linear_le (x ∷ y ∷ rho ∷ []) _ _ (search reads depth 20 fits 4000)
          (order zero_le_one most (search reads depth 20 fits 4000)
          (order zero_le_one qx.above (search reads depth 20 fits 4000)
          (fact (whole (pos 1000000000000)) (≈_sym is) (search reads depth 20 fits 4000)
          (order (zero_le_whole 133999998) zero_le_one (search reads depth 20 fits 4000) no_fact)))) tt);
    }
