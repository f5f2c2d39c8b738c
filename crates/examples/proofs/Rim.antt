-- Level rays through a plane with a rim of radius 5: a tie clears.
use Rattle.std.proofs.Common.{ℕ, zero, suc, ◌<◌, refl, arith}
use Rattle.std.specs.Prelude.{pos}
use Rattle.fixdec.specs.Frac.{Frac, ◌≈◌, ◌≤Q◌, ◌<Q◌, ◌+Q◌, ◌*Q◌, ◌-Q◌, neg_Q, whole}
use Rattle.fixdec.specs.Algebra.FracLaws.{≈_sym}
use Rattle.fixdec.specs.Member.{Symbols}
use Rattle.fixdec.specs.Algebra.Order.{le_trans}
use Rattle.fixdec.specs.Algebra.OrderLaws.{zero_le_one, zero_le_whole, le_mul_both, le_of_squares, le_of_lt, le_same_right, lt_not_le}
use Rattle.lensmodel.specs.Equations.Bending.{Bends}
use Rattle.lensmodel.specs.Equations.Chains.{IsWhole, Clears, ClearsAll}
use Rattle.lensmodel.specs.Equations.Crossing.{Transfers, Crosses}
use Rattle.lensmodel.specs.Equations.Dispersion.{IsIndex}
use Rattle.lensmodel.specs.Setup.Media.{medium_at}
use Rattle.lensmodel.specs.Equations.Residual.{IsWithin}
use Rattle.lensmodel.specs.Equations.Start.{Starts}
use Rattle.lensmodel.specs.Setup.Values.{curvature, conic_factor, eps, owner}
use Rattle.examples.specs.Worked.{rim_setup, level_ray, whole_decimal}
use Rattle.examples.specs.WorkedChains.{level_chain}
use Rattle.examples.proofs.Along.{keep, within_along}
use Rattle.examples.proofs.Concrete.{same, at_most, less_than, near}
use Rattle.examples.proofs.Flat.{exact, flat_conic, flat_side, flat_rho, flat_line}

some_residual : whole (pos 0) ≤Q eps rim_setup
unfolding whole
some_residual = at_most tt

five : whole (pos 5) ≈ whole (pos 5) +Q whole (pos 0) *Q whole (pos 0)
unfolding ◌+Q◌ ◌*Q◌ whole
five = same refl

onwards : whole (pos 0) ≤Q whole (pos 1) *Q (whole (pos 1) *Q whole (pos 1))
unfolding ◌*Q◌ whole
onwards = at_most tt

module _ (symbols : Symbols) where
  first_curvature : curvature rim_setup symbols 1 ≈ whole (pos 0)
  unfolding ◌+Q◌ ◌*Q◌ whole
  first_curvature = same refl

  last_curvature : curvature rim_setup symbols 2 ≈ whole (pos 0)
  unfolding ◌+Q◌ ◌*Q◌ whole
  last_curvature = same refl

  first_unit : whole (pos 1) ≈ whole (pos 1) -Q conic_factor rim_setup 1 *Q curvature rim_setup symbols 1 *Q whole (pos 0)
  unfolding ◌+Q◌ ◌-Q◌ ◌*Q◌ neg_Q whole
  first_unit = same refl

  last_unit : whole (pos 1) ≈ whole (pos 1) -Q conic_factor rim_setup 2 *Q curvature rim_setup symbols 2 *Q whole (pos 0)
  unfolding ◌+Q◌ ◌-Q◌ ◌*Q◌ neg_Q whole
  last_unit = same refl

  module _ (y : Frac) where
    starts : Starts rim_setup (level_ray (whole_decimal (pos 5))) (level_chain y symbols)
    unfolding ◌+Q◌ ◌*Q◌ ◌-Q◌ neg_Q whole
    starts = record {
      x = same refl;
      y = same refl;
      z = same refl;
      path = same refl;
      length = near tt tt;
      direction_x = near tt tt;
      direction_y = near tt tt;
      forwards = less_than tt;
    }

    indexed : (i : ℕ) → i < 2 → IsIndex (eps rim_setup) (medium_at rim_setup i) rim_setup.wave ((level_chain y symbols).glass_index (owner rim_setup i))
    indexed zero lt = keep
    indexed (suc zero) lt = keep
    indexed (suc (suc i)) lt = absurd (omega arith)

    module _ (h : IsWithin (eps rim_setup) y (whole (pos 5))) where
      transfers : (i : ℕ) → i < 2 → Transfers rim_setup (level_chain y symbols) i
      unfolding ◌+Q◌ ◌*Q◌ ◌-Q◌ neg_Q whole
      transfers zero lt = record {
        t = whole (pos 0);
        x = near tt tt;
        y = within_along keep five h;
        z = near tt tt;
        path = near tt tt;
        onwards = less_than tt;
      }
      transfers (suc zero) lt = record {
        t = whole (pos 4);
        x = near tt tt;
        y = exact some_residual (flat_line y (whole (pos 4)));
        z = near tt tt;
        path = near tt tt;
        onwards = less_than tt;
      }
      transfers (suc (suc i)) lt = absurd (omega arith)

      crosses : (i : ℕ) → i < 2 → Crosses rim_setup (level_chain y symbols) i
      crosses zero lt = record {
        rho = flat_rho y;
        w = first_unit;
        near_vertex = zero_le_one;
        conic = flat_conic _ _ _ some_residual first_curvature keep;
        sag = keep;
        side = flat_side _ _ _ _ first_curvature onwards;
      }
      crosses (suc zero) lt = record {
        rho = flat_rho y;
        w = last_unit;
        near_vertex = zero_le_one;
        conic = flat_conic _ _ _ some_residual last_curvature keep;
        sag = keep;
        side = flat_side _ _ _ _ last_curvature onwards;
      }
      crosses (suc (suc i)) lt = absurd (omega arith)

      bends : (i : ℕ) → suc i < 2 → Bends rim_setup (level_chain y symbols) i
      bends zero lt = record { l = keep; m = keep; n = keep }
      bends (suc i) lt = absurd (omega arith)

      pub level_whole : IsWhole rim_setup (level_ray (whole_decimal (pos 5))) (level_chain y symbols)
      level_whole = record { start = starts; index = indexed; transfer = transfers; crossing = crosses; bending = bends }

    -- the rim's radius
    rim_squared : whole (pos 5) *Q whole (pos 5) ≈ whole (pos 5) *Q whole (pos 1) *Q (whole (pos 5) *Q whole (pos 1))
    unfolding ◌*Q◌ whole
    rim_squared = same refl

    pub at_rim_clears : whole (pos 0) ≤Q y → y ≤Q whole (pos 5) → ClearsAll rim_setup (level_chain y symbols)
    at_rim_clears n le zero lt = tt
    at_rim_clears n le (suc zero) lt = le_same_right (le_mul_both n (zero_le_whole 5) le le) rim_squared
    at_rim_clears n le (suc (suc zero)) lt = tt
    at_rim_clears n le (suc (suc (suc j))) lt = absurd (omega arith)

    pub past_rim_misses : whole (pos 5) <Q y → Clears rim_setup (level_chain y symbols) 1 → ⊥
    past_rim_misses lt clears =
        lt_not_le lt
        (le_of_squares (le_trans (zero_le_whole 5) (le_of_lt lt)) (zero_le_whole 5) (le_same_right clears (≈_sym rim_squared)))
