-- Level rays through a plane with a rim of radius 5: no chain clears at the height 5.1, and every chain at 4.9.
use Rattle.std.proofs.Common.{zero, suc, refl, [], ◌∷◌, arith}
use Rattle.std.proofs.lemmas.Int.{ints}
use Rattle.std.specs.Prelude.{pos}
use Rattle.fixdec.specs.Decimal.{Decimal, value}
use Rattle.fixdec.specs.Frac.{Frac, ◌≈◌, ◌≤Q◌, ◌<Q◌, ◌+Q◌, ◌*Q◌, whole}
use Rattle.fixdec.specs.Algebra.FracLaws.{≈_sym, ≈_trans}
use Rattle.fixdec.specs.Algebra.Linear.{linear_le, fact, order, no_fact, reads}
use Rattle.fixdec.specs.Member.{Symbols}
use Rattle.fixdec.specs.Algebra.Order.{le_trans}
use Rattle.fixdec.specs.Algebra.OrderLaws.{zero_le_one, zero_le_whole, le_cancel, le_mul_both, le_of_squares, mul_nn, square_nn, lt_whole, lt_not_le, le_of_lt}
use Rattle.fixdec.specs.Algebra.Within.{HasSize, within_mul}
use Rattle.lensmodel.specs.Equations.Chain.{Chain}
use Rattle.lensmodel.specs.Equations.Chains.{IsChainTo}
use Rattle.lensmodel.specs.Claims.RowClaims.{WordHolds}
use Rattle.lensmodel.specs.Equations.Crossing.{Transfers, Crosses}
use Rattle.lensmodel.specs.Equations.Residual.{IsWithin}
use Rattle.lensmodel.specs.Equations.Start.{slope_x, slope_y}
use Rattle.lensmodel.specs.Setup.Values.{zero_decimal, curvature, eps}
use Rattle.examples.specs.Worked.{rim_setup, level_ray, high_height, low_height}
use Rattle.lensmodel.specs.declared.row.Word.TheVariants.{Passes, Vignetted}
use Rattle.examples.proofs.Along.{keep}
use Rattle.examples.proofs.Concrete.{same, at_most}
use Rattle.examples.proofs.Fronts.{whole_reaches}
use Rattle.examples.proofs.Near.{sag_high, sag_low, step_size}

module _ (eps : Frac) (small : eps *Q whole (pos 1000) ≤Q whole (pos 1)) where
  -- the cosine along the axis of a level ray
  axial_level : (k n : Frac) → k ≈ whole (pos 1) → IsWithin eps (n *Q n *Q k) (whole (pos 1)) → whole (pos 0) <Q n → whole (pos 1) ≤Q n *Q whole (pos 2)
  axial_level k n level length forwards =
      le_of_squares zero_le_one (mul_nn (le_of_lt forwards) (zero_le_whole 2)) (le_cancel (whole (pos 1000)) (lt_whole (omega (arith, ints)))
      (linear_le (eps ∷ k ∷ n ∷ []) _ _ (search reads depth 20 fits 4000)
      (order (zero_le_whole 4000) length.above (search reads depth 20 fits 4000)
      (order (zero_le_whole 4) small (search reads depth 20 fits 4000)
      (fact (n *Q n *Q whole (pos 4000)) (≈_sym level) (search reads depth 20 fits 4000)
      (order (zero_le_whole 2996) zero_le_one (search reads depth 20 fits 4000) no_fact)))) tt))

-- the cosines across it
pub across : (eps p n l : Frac) → p ≈ whole (pos 0) → IsWithin eps l (p *Q n) → HasSize eps l
across eps p n l flat h = record {
  above = linear_le (eps ∷ p ∷ n ∷ l ∷ []) _ _ (search reads depth 20 fits 4000)
      (order zero_le_one h.below (search reads depth 20 fits 4000)
      (fact n (≈_sym flat) (search reads depth 20 fits 4000) no_fact)) tt;
  below = linear_le (eps ∷ p ∷ n ∷ l ∷ []) _ _ (search reads depth 20 fits 4000)
      (order zero_le_one h.above (search reads depth 20 fits 4000)
      (fact n flat (search reads depth 20 fits 4000) no_fact)) tt;
}

-- so the height stays within twice the residual
moved : (eps a x0 s x1 : Frac) → x0 ≈ a → HasSize (eps *Q whole (pos 1)) s → IsWithin eps x1 (x0 +Q s) → IsWithin (eps +Q eps) x1 a
moved eps a x0 s x1 start size h = record {
  above = linear_le (eps ∷ a ∷ x0 ∷ s ∷ x1 ∷ []) _ _ (search reads depth 20 fits 4000)
      (order zero_le_one h.above (search reads depth 20 fits 4000)
      (order zero_le_one size.below (search reads depth 20 fits 4000)
      (fact (whole (pos 1)) start (search reads depth 20 fits 4000) no_fact))) tt;
  below = linear_le (eps ∷ a ∷ x0 ∷ s ∷ x1 ∷ []) _ _ (search reads depth 20 fits 4000)
      (order zero_le_one h.below (search reads depth 20 fits 4000)
      (order zero_le_one size.above (search reads depth 20 fits 4000)
      (fact (whole (pos 1)) (≈_sym start) (search reads depth 20 fits 4000) no_fact))) tt;
}

small_residual : eps rim_setup *Q whole (pos 1000) ≤Q whole (pos 1)
unfolding ◌*Q◌ whole
small_residual = at_most tt

level : (y : Decimal) → whole (pos 1) +Q slope_x (level_ray y) *Q slope_x (level_ray y) +Q slope_y (level_ray y) *Q slope_y (level_ray y) ≈ whole (pos 1)
unfolding ◌+Q◌ ◌*Q◌ whole
level y = same refl

no_slope : value zero_decimal ≈ whole (pos 0)
unfolding ◌*Q◌ whole
no_slope = same refl

plane_curvature : (symbols : Symbols) → curvature rim_setup symbols 1 ≈ whole (pos 0)
unfolding ◌+Q◌ ◌*Q◌ whole
plane_curvature symbols = same refl

module _ (y : Decimal) (c : Chain) (h : IsChainTo rim_setup (level_ray y) 1 c) where
  line : Transfers rim_setup c 0
  line = h.transfer 0 (omega arith)

  point : Crosses rim_setup c 0
  point = h.crossing 0 (omega arith)

  step : HasSize (whole (pos 1)) line.t
  step =
      let flat = plane_curvature c.symbols in
      step_size (eps rim_setup) small_residual (c.n 0) (c.z 0) (whole (pos 0)) (c.z 1) (c.conic_sag 1) line.t h.start.forwards
      (axial_level (eps rim_setup) small_residual _ (c.n 0) (level y) h.start.length h.start.forwards) h.start.z keep point.sag
      (sag_high (eps rim_setup) small_residual _ _ (c.conic_sag 1) flat point.conic)
      (sag_low (eps rim_setup) small_residual _ _ (c.conic_sag 1) flat point.conic) line.z

  stays_x : IsWithin (eps rim_setup +Q eps rim_setup) (c.x 1) (whole (pos 0))
  stays_x =
      moved (eps rim_setup) (whole (pos 0)) (c.x 0) _ (c.x 1) (≈_trans h.start.x no_slope)
      (within_mul (across (eps rim_setup) _ (c.n 0) (c.l 0) no_slope h.start.direction_x) step) line.x

  stays_y : IsWithin (eps rim_setup +Q eps rim_setup) (c.y 1) (value y)
  stays_y =
      moved (eps rim_setup) (value y) (c.y 0) _ (c.y 1) h.start.y
      (within_mul (across (eps rim_setup) _ (c.n 0) (c.m 0) no_slope h.start.direction_y) step) line.y

-- a point at the height 5.1 is outside the rim
outside : (eps v x y rho : Frac) → eps *Q whole (pos 1000) ≤Q whole (pos 1) → v *Q whole (pos 10) ≈ whole (pos 51) → IsWithin (eps +Q eps) y v
    → rho ≈ x *Q x +Q y *Q y → rho ≤Q whole (pos 5) *Q whole (pos 1) *Q (whole (pos 5) *Q whole (pos 1)) → ⊥
outside eps v x y rho small is near is_rho clears =
    let up : whole (pos 5098) ≤Q y *Q whole (pos 1000) =
    linear_le (eps ∷ v ∷ y ∷ []) _ _ (search reads depth 20 fits 4000)
    (order (zero_le_whole 1000) near.above (search reads depth 20 fits 4000)
    (order (zero_le_whole 2) small (search reads depth 20 fits 4000)
    (fact (whole (pos 100)) is (search reads depth 20 fits 4000) no_fact))) tt in
    let square : whole (pos 5098) *Q whole (pos 5098) ≤Q y *Q whole (pos 1000) *Q (y *Q whole (pos 1000)) =
    le_mul_both (zero_le_whole 5098) (le_trans (zero_le_whole 5098) up) up up in
    let no : whole (pos 989604) ≤Q whole (pos 0) =
    linear_le (eps ∷ x ∷ y ∷ rho ∷ []) _ _ (search reads depth 20 fits 4000)
    (order zero_le_one square (search reads depth 20 fits 4000)
    (order (zero_le_whole 1000000) clears (search reads depth 20 fits 4000)
    (order (zero_le_whole 1000000) (square_nn x) (search reads depth 20 fits 4000)
    (fact (whole (pos 1000000)) is_rho (search reads depth 20 fits 4000) no_fact)))) tt in
    lt_not_le (lt_whole {a = pos 0} {b = pos 989604} (omega (arith, ints))) no

-- a point at the height 4.9 is inside it
inside : (eps v x y rho : Frac) → eps *Q whole (pos 1000) ≤Q whole (pos 1) → v *Q whole (pos 10) ≈ whole (pos 49) → IsWithin (eps +Q eps) y v
    → IsWithin (eps +Q eps) x (whole (pos 0)) → rho ≈ x *Q x +Q y *Q y → rho ≤Q whole (pos 5) *Q whole (pos 1) *Q (whole (pos 5) *Q whole (pos 1))
inside eps v x y rho small is near middle is_rho =
    let high : HasSize (whole (pos 4902)) (y *Q whole (pos 1000)) = record {
      above = linear_le (eps ∷ v ∷ y ∷ []) _ _ (search reads depth 20 fits 4000)
          (order (zero_le_whole 1000) near.below (search reads depth 20 fits 4000)
          (order (zero_le_whole 2) small (search reads depth 20 fits 4000)
          (fact (whole (pos 100)) (≈_sym is) (search reads depth 20 fits 4000) no_fact))) tt;
      below = linear_le (eps ∷ v ∷ y ∷ []) _ _ (search reads depth 20 fits 4000)
          (order (zero_le_whole 1000) near.above (search reads depth 20 fits 4000)
          (order (zero_le_whole 2) small (search reads depth 20 fits 4000)
          (fact (whole (pos 100)) is (search reads depth 20 fits 4000)
          (order (zero_le_whole 9800) zero_le_one (search reads depth 20 fits 4000) no_fact)))) tt;
    } in
    let side : HasSize (whole (pos 2)) (x *Q whole (pos 1000)) = record {
      above = linear_le (eps ∷ x ∷ []) _ _ (search reads depth 20 fits 4000)
          (order (zero_le_whole 1000) middle.below (search reads depth 20 fits 4000)
          (order (zero_le_whole 2) small (search reads depth 20 fits 4000) no_fact)) tt;
      below = linear_le (eps ∷ x ∷ []) _ _ (search reads depth 20 fits 4000)
          (order (zero_le_whole 1000) middle.above (search reads depth 20 fits 4000)
          (order (zero_le_whole 2) small (search reads depth 20 fits 4000) no_fact)) tt;
    } in
    let a = within_mul high high in
    let b = within_mul side side in
    le_cancel (whole (pos 1000000)) (lt_whole (omega (arith, ints)))
    (linear_le (x ∷ y ∷ rho ∷ []) _ _ (search reads depth 20 fits 4000)
    (order zero_le_one a.above (search reads depth 20 fits 4000)
    (order zero_le_one b.above (search reads depth 20 fits 4000)
    (fact (whole (pos 1000000)) (≈_sym is_rho) (search reads depth 20 fits 4000)
    (order (zero_le_whole 970392) zero_le_one (search reads depth 20 fits 4000) no_fact)))) tt)

high_ray : value high_height *Q whole (pos 10) ≈ whole (pos 51)
unfolding ◌*Q◌ whole
high_ray = same refl

low_ray : value low_height *Q whole (pos 10) ≈ whole (pos 49)
unfolding ◌*Q◌ whole
low_ray = same refl

pub high_vignetted : WordHolds (Vignetted 1) rim_setup (level_ray high_height)
high_vignetted c h clears =
    outside (eps rim_setup) _ (c.x 1) (c.y 1) (c.rho 1) small_residual high_ray (stays_y _ c h) (h.crossing 0 (omega arith)).rho clears

pub low_passes : WordHolds Passes rim_setup (level_ray low_height)
low_passes c whole zero le = tt
low_passes c whole (suc zero) le =
    let h = whole_reaches rim_setup _ c 1 (omega arith) whole in
    inside (eps rim_setup) _ (c.x 1) (c.y 1) (c.rho 1) small_residual low_ray (stays_y _ c h) (stays_x _ c h) (h.crossing 0 (omega arith)).rho
low_passes c whole (suc (suc zero)) le = tt
low_passes c whole (suc (suc (suc j))) le = absurd (omega arith)
