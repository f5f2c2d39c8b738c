-- How far the height of the slanted ray at the image may lie off, all else being the same.
use Rattle.std.proofs.Common.{ℕ, zero, suc, ◌<◌, refl, [], ◌∷◌, arith}
use Rattle.std.proofs.lemmas.Int.{ints}
use Rattle.std.specs.Prelude.{pos}
use Rattle.fixdec.specs.Frac.{Frac, ◌≈◌, ◌≤Q◌, ◌+Q◌, ◌-Q◌, ◌*Q◌, neg_Q, whole}
use Rattle.fixdec.specs.Algebra.FracLaws.{≈_sym}
use Rattle.fixdec.specs.Algebra.Linear.{linear_le, fact, order, no_fact, reads}
use Rattle.fixdec.specs.Member.{Symbols}
use Rattle.fixdec.specs.Algebra.OrderLaws.{zero_le_one, zero_le_whole, le_cancel, lt_whole}
use Rattle.lensmodel.specs.Equations.Bending.{Bends}
use Rattle.lensmodel.specs.Equations.Chains.{IsWhole}
use Rattle.lensmodel.specs.Equations.Crossing.{Transfers, Crosses}
use Rattle.lensmodel.specs.Equations.Residual.{IsWithin}
use Rattle.lensmodel.specs.Setup.Values.{curvature, conic_factor, distance, eps}
use Rattle.examples.specs.Worked.{plane_setup, slanted_ray}
use Rattle.examples.specs.WorkedChains.{slanted_to}
use Rattle.examples.proofs.Along.{keep, within_along}
use Rattle.examples.proofs.Concrete.{same, at_most, less_than, near}
use Rattle.examples.proofs.Flat.{flat_conic, flat_side, flat_rho}
use Rattle.examples.proofs.Slanted.{slanted_whole}

some_residual : whole (pos 0) ≤Q eps plane_setup
unfolding whole
some_residual = at_most tt

no_curvature : (symbols : Symbols) → curvature plane_setup symbols 2 ≈ whole (pos 0)
unfolding ◌+Q◌ ◌*Q◌ whole
no_curvature symbols = same refl

unit : (symbols : Symbols) → whole (pos 1) ≈ whole (pos 1) -Q conic_factor plane_setup 2 *Q curvature plane_setup symbols 2 *Q whole (pos 0)
unfolding ◌+Q◌ ◌-Q◌ ◌*Q◌ neg_Q whole
unit symbols = same refl

onwards : whole (pos 0) ≤Q whole (pos 1) *Q (whole (pos 1) *Q record { num = pos 4; less = 4 })
unfolding ◌*Q◌ whole
onwards = at_most tt

three : whole (pos 3) ≈ whole (pos 0) +Q record { num = pos 3; less = 4 } *Q whole (pos 5)
unfolding ◌+Q◌ ◌*Q◌ whole
three = same refl

module _ (y : Frac) (symbols : Symbols) where
  module _ (h : IsWithin (eps plane_setup) y (whole (pos 3))) where
    transfers : (i : ℕ) → i < 2 → Transfers plane_setup (slanted_to y symbols) i
    unfolding ◌+Q◌ ◌*Q◌ ◌-Q◌ neg_Q whole
    transfers zero lt = record { t = whole (pos 0); x = near tt tt; y = near tt tt; z = near tt tt; path = near tt tt; onwards = less_than tt }
    transfers (suc zero) lt = record {
      t = whole (pos 5);
      x = near tt tt;
      y = within_along keep three h;
      z = near tt tt;
      path = near tt tt;
      onwards = less_than tt;
    }
    transfers (suc (suc i)) lt = absurd (omega arith)

    crossed : Crosses plane_setup (slanted_to y symbols) 1
    crossed = record {
      rho = flat_rho y;
      w = unit symbols;
      near_vertex = zero_le_one;
      conic = flat_conic _ _ _ some_residual (no_curvature symbols) keep;
      sag = keep;
      side = flat_side _ _ _ _ (no_curvature symbols) onwards;
    }

    crosses : (i : ℕ) → i < 2 → Crosses plane_setup (slanted_to y symbols) i
    unfolding ◌+Q◌ ◌*Q◌ ◌-Q◌ neg_Q whole
    crosses zero lt = record { rho = same refl; w = same refl; near_vertex = at_most tt; conic = near tt tt; sag = same refl; side = at_most tt }
    crosses (suc zero) lt = crossed
    crosses (suc (suc i)) lt = absurd (omega arith)

    bends : (i : ℕ) → suc i < 2 → Bends plane_setup (slanted_to y symbols) i
    bends zero lt = record { l = same refl; m = same refl; n = same refl }
    bends (suc i) lt = absurd (omega arith)

    -- within the residual it is still a chain
    pub height_within : IsWhole plane_setup slanted_ray (slanted_to y symbols)
    height_within =
        let h = slanted_whole symbols in
        record {
          start = record {
            x = h.start.x;
            y = h.start.y;
            z = h.start.z;
            path = h.start.path;
            length = h.start.length;
            direction_x = h.start.direction_x;
            direction_y = h.start.direction_y;
            forwards = h.start.forwards;
          };
          index = h.index;
          transfer = transfers;
          crossing = crosses;
          bending = bends;
        }

-- the step to the image, and the height there
bounded : (eps m n d y t : Frac) → m *Q whole (pos 5) ≈ whole (pos 3) → n *Q whole (pos 5) ≈ whole (pos 4) → d ≈ whole (pos 4)
    → whole (pos 0) ≤Q eps → IsWithin eps y (whole (pos 0) +Q m *Q t) → IsWithin eps (whole (pos 0) +Q n *Q t) (d +Q whole (pos 0))
    → IsWithin (eps +Q eps) y (whole (pos 3))
bounded eps m n d y t is_m is_n is_d some height step = record {
  above = le_cancel (whole (pos 20)) (lt_whole (omega (arith, ints)))
      (linear_le (eps ∷ m ∷ n ∷ d ∷ y ∷ t ∷ []) _ _ (search reads depth 20 fits 4000)
      (order (zero_le_whole 20) height.above (search reads depth 20 fits 4000)
      (order (zero_le_whole 15) step.above (search reads depth 20 fits 4000)
      (order (zero_le_whole 5) some (search reads depth 20 fits 4000)
      (fact (t *Q whole (pos 4)) is_m (search reads depth 20 fits 4000)
      (fact (t *Q whole (pos 3)) (≈_sym is_n) (search reads depth 20 fits 4000)
      (fact (whole (pos 15)) is_d (search reads depth 20 fits 4000) no_fact)))))) tt);
  below = le_cancel (whole (pos 20)) (lt_whole (omega (arith, ints)))
      (linear_le (eps ∷ m ∷ n ∷ d ∷ y ∷ t ∷ []) _ _ (search reads depth 20 fits 4000)
      (order (zero_le_whole 20) height.below (search reads depth 20 fits 4000)
      (order (zero_le_whole 15) step.below (search reads depth 20 fits 4000)
      (order (zero_le_whole 5) some (search reads depth 20 fits 4000)
      (fact (t *Q whole (pos 4)) (≈_sym is_m) (search reads depth 20 fits 4000)
      (fact (t *Q whole (pos 3)) is_n (search reads depth 20 fits 4000)
      (fact (whole (pos 15)) (≈_sym is_d) (search reads depth 20 fits 4000) no_fact)))))) tt);
}

slope_m : record { num = pos 3; less = 4 } *Q whole (pos 5) ≈ whole (pos 3)
unfolding ◌*Q◌ whole
slope_m = same refl

slope_n : record { num = pos 4; less = 4 } *Q whole (pos 5) ≈ whole (pos 4)
unfolding ◌*Q◌ whole
slope_n = same refl

apart : (symbols : Symbols) → distance plane_setup symbols 1 ≈ whole (pos 4)
unfolding ◌+Q◌ ◌*Q◌ whole
apart symbols = same refl

-- farther off than twice the residual it is none
pub height_beyond : (y : Frac) (symbols : Symbols) → IsWhole plane_setup slanted_ray (slanted_to y symbols)
    → IsWithin (eps plane_setup +Q eps plane_setup) y (whole (pos 3))
height_beyond y symbols h =
    let line : Transfers plane_setup (slanted_to y symbols) 1 = h.transfer 1 (omega arith) in
    bounded (eps plane_setup) _ _ _ y line.t slope_m slope_n (apart symbols) some_residual line.y line.z
