-- Total reflection: a ray of slope 6/5 doesn't leave glass of index 3/2 through a plane.
use Rattle.std.proofs.Common.{refl, [], ◌∷◌, arith}
use Rattle.std.proofs.lemmas.Int.{ints}
use Rattle.std.specs.Prelude.{pos}
use Rattle.fixdec.specs.Decimal.{value}
use Rattle.fixdec.specs.Frac.{Frac, ◌≈◌, ◌≤Q◌, ◌<Q◌, ◌+Q◌, ◌*Q◌, ◌-Q◌, whole}
use Rattle.fixdec.specs.Algebra.FracLaws.{≈_sym, ≈_trans}
use Rattle.fixdec.specs.Algebra.Linear.{linear, linear_le, name, fact, order, no_fact, reads}
use Rattle.fixdec.specs.Member.{Symbols}
use Rattle.fixdec.specs.Algebra.OrderLaws.{zero_le_one, zero_le_whole, le_cancel, le_mul_both, le_same_right, add_nn, mul_nn, square_nn, lt_whole, lt_from_not, lt_not_le}
use Rattle.fixdec.specs.Algebra.Within.{HasSize, within_add, within_mul}
use Rattle.lensmodel.specs.Equations.Bending.{Refracts}
use Rattle.lensmodel.specs.Equations.Chain.{Chain, index_behind}
use Rattle.lensmodel.specs.Equations.Chains.{IsChainPast}
use Rattle.lensmodel.specs.Equations.Crossing.{Transfers, Crosses}
use Rattle.lensmodel.specs.Equations.Dispersion.{IsSchott, IsGlassIndex}
use Rattle.lensmodel.specs.Equations.Residual.{IsWithin}
use Rattle.lensmodel.specs.Equations.Start.{Starts, slope_x, slope_y}
use Rattle.lensmodel.specs.Setup.Values.{zero_decimal, curvature, eps}
use Rattle.examples.specs.Worked.{flat_glass, glass_setup, steep_ray}
use Rattle.examples.proofs.Along.{keep, times, within_along}
use Rattle.examples.proofs.Boxes.{index_written}
use Rattle.examples.proofs.Concrete.{same, at_most}
use Rattle.examples.proofs.Near.{axial_high, axial_low, flat_size, steep_size, sag_high, sag_low, step_size, point_size, lean_size}

-- a bound on the lean of a normal, times the path across
abbrev lean : Frac → Frac
lean eps = eps *Q (whole (pos 2) *Q whole (pos 1) +Q whole (pos 2) *Q whole (pos 1))

module _ (eps : Frac) (small : eps *Q whole (pos 1000) ≤Q whole (pos 1)) where
  -- the square of the cosine of incidence is below 1/2
  module _ (n e s g cos rho : Frac) (high : n *Q whole (pos 20) ≤Q whole (pos 13)) (leans : HasSize (lean eps) (e *Q s))
      (cosine : IsWithin eps (g *Q cos) (whole (pos 1) *Q (n -Q e *Q s))) (size : IsWithin eps (g *Q g) (whole (pos 1) +Q e *Q e *Q rho))
      (wide : whole (pos 0) ≤Q rho) (g_sign : whole (pos 0) ≤Q g) (cos_sign : whole (pos 0) ≤Q cos) where
    projected : g *Q cos *Q whole (pos 200) ≤Q whole (pos 131)
    projected =
        linear_le (eps ∷ n ∷ e ∷ s ∷ g ∷ cos ∷ []) _ _ (search reads depth 20 fits 4000)
        (order (zero_le_whole 200) cosine.below (search reads depth 20 fits 4000)
        (order (zero_le_whole 200) leans.below (search reads depth 20 fits 4000)
        (order (zero_le_whole 10) high (search reads depth 20 fits 4000)
        (order zero_le_one small (search reads depth 20 fits 4000) no_fact)))) tt

    squared : g *Q cos *Q whole (pos 200) *Q (g *Q cos *Q whole (pos 200)) ≤Q whole (pos 131) *Q whole (pos 131)
    squared = le_mul_both (mul_nn (mul_nn g_sign cos_sign) (zero_le_whole 200)) (zero_le_whole 131) projected projected

    room : whole (pos 0) <Q whole (pos 1) -Q eps
    room = lt_from_not (λ r. lt_not_le (lt_whole {a = pos 0} {b = pos 999} (omega (arith, ints)))
        (linear_le (eps ∷ []) _ _ (search reads depth 20 fits 4000)
        (order (zero_le_whole 1000) r (search reads depth 20 fits 4000)
        (order zero_le_one small (search reads depth 20 fits 4000) no_fact)) tt))

    pub cosine_low : cos *Q cos *Q whole (pos 2) ≤Q whole (pos 1)
    cosine_low = le_cancel (whole (pos 1) -Q eps) room (le_cancel (whole (pos 20000)) (lt_whole (omega (arith, ints)))
        (linear_le (eps ∷ e ∷ g ∷ cos ∷ rho ∷ []) _ _ (search reads depth 20 fits 4000)
        (order (mul_nn (square_nn cos) (zero_le_whole 40000)) size.above (search reads depth 20 fits 4000)
        (order (mul_nn (square_nn cos) (zero_le_whole 40000)) (mul_nn (square_nn e) wide) (search reads depth 20 fits 4000)
        (order zero_le_one squared (search reads depth 20 fits 4000)
        (order (zero_le_whole 20) small (search reads depth 20 fits 4000)
        (order (zero_le_whole 2819) zero_le_one (search reads depth 20 fits 4000) no_fact))))) tt))

  -- then Snell's law leaves no cosine of refraction
  pub none_refracts : (index f after cos cos' : Frac) → IsWithin eps (index *Q index) f → f *Q whole (pos 4) ≈ whole (pos 9)
      → after ≈ whole (pos 1) → cos *Q cos *Q whole (pos 2) ≤Q whole (pos 1)
      → IsWithin eps (after *Q after *Q (cos' *Q cos')) (after *Q after -Q index *Q index *Q (whole (pos 1) -Q cos *Q cos)) → ⊥
  none_refracts index f after cos cos' square formula air low snell =
      let no : whole (pos 247) ≤Q whole (pos 0) =
      linear_le (eps ∷ index ∷ f ∷ after ∷ cos ∷ cos' ∷ []) _ _ (search reads depth 20 fits 4000)
      (order (zero_le_whole 2000) snell.below (search reads depth 20 fits 4000)
      (order (zero_le_whole 2000) (mul_nn (square_nn after) (square_nn cos')) (search reads depth 20 fits 4000)
      (order (mul_nn (square_nn index) (zero_le_whole 1000)) low (search reads depth 20 fits 4000)
      (order (zero_le_whole 1000) square.above (search reads depth 20 fits 4000)
      (order (zero_le_whole 3) small (search reads depth 20 fits 4000)
      (fact ((after +Q whole (pos 1)) *Q whole (pos 2000)) (≈_sym air) (search reads depth 20 fits 4000)
      (fact (whole (pos 250)) formula (search reads depth 20 fits 4000) no_fact))))))) tt
      in lt_not_le (lt_whole {a = pos 0} {b = pos 247} (omega (arith, ints))) no

-- the square of the glass's index is 9/4
schott : (c z l r f : Frac) → c *Q whole (pos 4) ≈ whole (pos 9) → z ≈ whole (pos 0)
    → f ≈ c +Q z *Q l +Q r *Q (z +Q r *Q (z +Q r *Q (z +Q r *Q z))) → f *Q whole (pos 4) ≈ whole (pos 9)
schott c z l r f first rest sum =
    linear (f ∷ c ∷ z ∷ l ∷ r ∷ []) _ _ (search reads depth 20 fits 4000)
    (name sum (search reads depth 20 fits 4000) (name rest (search reads depth 20 fits 4000)
    (fact (whole (pos 1)) first (search reads depth 20 fits 4000) no_fact))) tt

flat_formula : (l f : Frac) → IsSchott flat_glass l f → f *Q whole (pos 4) ≈ whole (pos 9)
unfolding ◌+Q◌ ◌*Q◌ whole
flat_formula l f h = schott (value flat_glass.c0) (value flat_glass.c1) l h.r f (same refl) (same refl) h.sum

small_residual : eps glass_setup *Q whole (pos 1000) ≤Q whole (pos 1)
unfolding ◌*Q◌ whole
small_residual = at_most tt

slopes : (whole (pos 1) +Q slope_x steep_ray *Q slope_x steep_ray +Q slope_y steep_ray *Q slope_y steep_ray) *Q whole (pos 25) ≈ whole (pos 61)
unfolding ◌+Q◌ ◌*Q◌ whole
slopes = same refl

flat_slope : slope_x steep_ray ≈ whole (pos 0)
unfolding ◌*Q◌ whole
flat_slope = same refl

steep_slope : slope_y steep_ray *Q whole (pos 5) ≈ whole (pos 6)
unfolding ◌*Q◌ whole
steep_slope = same refl

origin : value zero_decimal ≈ whole (pos 0)
unfolding ◌*Q◌ whole
origin = same refl

plane_curvature : (symbols : Symbols) → curvature glass_setup symbols 1 ≈ whole (pos 0)
unfolding ◌+Q◌ ◌*Q◌ whole
plane_curvature symbols = same refl

-- no chain leaves the plane
module _ (c : Chain) (h : IsChainPast glass_setup steep_ray 1 c) where
  abbrev start : Starts glass_setup steep_ray c
  start = h.reaches.start

  line : Transfers glass_setup c 0
  line = h.reaches.transfer 0 (omega arith)

  point : Crosses glass_setup c 0
  point = h.reaches.crossing 0 (omega arith)

  bend : Refracts glass_setup c 0
  bend = h.leaves 0 (omega arith)

  glass : IsGlassIndex (eps glass_setup) flat_glass glass_setup.wave (c.glass_index 0)
  glass = h.reaches.index 0 (omega arith)

  air : index_behind glass_setup c 1 ≈ whole (pos 1)
  air = ≈_trans (index_written glass_setup c 1 refl) (h.reaches.index 1 (omega arith))

  square : IsWithin (eps glass_setup) (index_behind glass_setup c 0 *Q index_behind glass_setup c 0) glass.f
  square = let p = ≈_sym (index_written glass_setup c 0 refl) in within_along (times p p) keep glass.square

  high : c.n 0 *Q whole (pos 20) ≤Q whole (pos 13)
  high = axial_high (eps glass_setup) small_residual _ (c.n 0) slopes start.length start.forwards

  low : whole (pos 1) ≤Q c.n 0 *Q whole (pos 2)
  low = axial_low (eps glass_setup) small_residual _ (c.n 0) slopes start.length start.forwards

  across_x : HasSize (whole (pos 1)) (c.l 0)
  across_x = flat_size (eps glass_setup) small_residual (c.n 0) high low _ (c.l 0) flat_slope start.direction_x

  across_y : HasSize (whole (pos 1)) (c.m 0)
  across_y = steep_size (eps glass_setup) small_residual (c.n 0) high low _ (c.m 0) steep_slope start.direction_y

  step : HasSize (whole (pos 1)) line.t
  step =
      let zero = plane_curvature c.symbols in
      step_size (eps glass_setup) small_residual (c.n 0) (c.z 0) (whole (pos 0)) (c.z 1) (c.conic_sag 1) line.t start.forwards low start.z keep point.sag
      (sag_high (eps glass_setup) small_residual _ _ (c.conic_sag 1) zero point.conic)
      (sag_low (eps glass_setup) small_residual _ _ (c.conic_sag 1) zero point.conic) line.z

  near_x : HasSize (whole (pos 2)) (c.x 1)
  near_x = point_size (eps glass_setup) small_residual (c.x 0) _ (c.x 1) (≈_trans start.x origin) (within_mul across_x step) line.x

  near_y : HasSize (whole (pos 2)) (c.y 1)
  near_y = point_size (eps glass_setup) small_residual (c.y 0) _ (c.y 1) (≈_trans start.y origin) (within_mul across_y step) line.y

  leans : HasSize (lean (eps glass_setup)) (bend.e *Q (c.x 1 *Q c.l 0 +Q c.y 1 *Q c.m 0))
  leans =
      within_mul (lean_size (eps glass_setup) small_residual _ _ (c.conic_sag 1) (c.w 1) bend.e (plane_curvature c.symbols) point.w bend.normal.slope)
      (within_add (within_mul near_x across_x) (within_mul near_y across_y))

  incidence : bend.cos *Q bend.cos *Q whole (pos 2) ≤Q whole (pos 1)
  incidence =
      cosine_low (eps glass_setup) small_residual (c.n 0) bend.e _ bend.g bend.cos (c.rho 1) high leans bend.normal.cosine bend.normal.size
      (le_same_right (add_nn (square_nn (c.x 1)) (square_nn (c.y 1))) (≈_sym point.rho)) bend.normal.size_sign bend.normal.cosine_sign

  pub no_exit : ⊥
  no_exit =
      none_refracts (eps glass_setup) small_residual _ glass.f _ bend.cos bend.cos' square (flat_formula _ glass.f (glass.formula.schott refl)) air
      incidence bend.snell
