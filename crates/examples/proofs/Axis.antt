-- The chain along the axis of a sphere into glass, and its place in the printed intervals.
use Rattle.std.proofs.Common.{ℕ, zero, suc, ◌<◌, refl, arith}
use Rattle.std.specs.Prelude.{pos}
use Rattle.fixdec.specs.Frac.{◌+Q◌, ◌*Q◌, ◌-Q◌, neg_Q, whole}
use Rattle.fixdec.specs.Member.{Symbols}
use Rattle.lensmodel.specs.Equations.Bending.{Bends}
use Rattle.lensmodel.specs.Equations.Chains.{IsWhole}
use Rattle.lensmodel.specs.Claims.RowClaims.{HoldsPlace, HoldsHeading}
use Rattle.lensmodel.specs.Equations.Crossing.{Transfers, Crosses}
use Rattle.lensmodel.specs.Equations.Dispersion.{IsIndex, IsFormula}
use Rattle.lensmodel.specs.Setup.Media.{medium_at}
use Rattle.lensmodel.specs.Equations.Start.{Starts}
use Rattle.lensmodel.specs.Setup.Values.{eps, owner}
use Rattle.examples.specs.Worked.{flat_glass, sphere_setup, axis_ray}
use Rattle.examples.specs.WorkedChains.{axis_chain}
use Rattle.examples.specs.WorkedRow.{axis_vertex, axis_heading, axis_image}
use Rattle.examples.proofs.Concrete.{same, at_most, less_than, near, inside}

-- the square of the glass's index is 9/4 at half a micrometre
pub formula : IsFormula flat_glass (record { num = pos 25; less = 99 }) (record { num = pos 9; less = 3 })
unfolding ◌+Q◌ ◌*Q◌ ◌-Q◌ neg_Q whole
formula = record {
  schott = λ _. record { r = whole (pos 4); inverse = same refl; sum = same refl };
  sellmeier = λ e. absurd (cc);
}

module _ (symbols : Symbols) where
  starts : Starts sphere_setup axis_ray (axis_chain symbols)
  unfolding ◌+Q◌ ◌*Q◌ ◌-Q◌ neg_Q whole
  starts = record {
    x = same refl;
    y = same refl;
    z = same refl;
    path = same refl;
    length = near tt tt;
    direction_x = near tt tt;
    direction_y = near tt tt;
    forwards = less_than tt;
  }

  indexed : (i : ℕ) → i < 2 → IsIndex (eps sphere_setup) (medium_at sphere_setup i) sphere_setup.wave ((axis_chain symbols).glass_index (owner sphere_setup i))
  unfolding ◌+Q◌ ◌*Q◌ ◌-Q◌ neg_Q whole
  indexed zero lt = same refl
  indexed (suc zero) lt = record { f = record { num = pos 9; less = 3 }; positive = less_than tt; formula = formula; square = near tt tt }
  indexed (suc (suc i)) lt = absurd (omega arith)

  transfers : (i : ℕ) → i < 2 → Transfers sphere_setup (axis_chain symbols) i
  unfolding ◌+Q◌ ◌*Q◌ ◌-Q◌ neg_Q whole
  transfers zero lt = record { t = whole (pos 0); x = near tt tt; y = near tt tt; z = near tt tt; path = near tt tt; onwards = less_than tt }
  transfers (suc zero) lt = record { t = whole (pos 10); x = near tt tt; y = near tt tt; z = near tt tt; path = near tt tt; onwards = less_than tt }
  transfers (suc (suc i)) lt = absurd (omega arith)

  crosses : (i : ℕ) → i < 2 → Crosses sphere_setup (axis_chain symbols) i
  unfolding ◌+Q◌ ◌*Q◌ ◌-Q◌ neg_Q whole
  crosses zero lt = record { rho = same refl; w = same refl; near_vertex = at_most tt; conic = near tt tt; sag = same refl; side = at_most tt }
  crosses (suc zero) lt = record { rho = same refl; w = same refl; near_vertex = at_most tt; conic = near tt tt; sag = same refl; side = at_most tt }
  crosses (suc (suc i)) lt = absurd (omega arith)

  bends : (i : ℕ) → suc i < 2 → Bends sphere_setup (axis_chain symbols) i
  unfolding ◌+Q◌ ◌*Q◌ ◌-Q◌ neg_Q whole
  bends zero lt = record {
    e = record { num = pos 1; less = 9 };
    g = whole (pos 1);
    cos = whole (pos 1);
    cos' = whole (pos 1);
    k = record { num = pos 1; less = 1 };
    normal = record { slope = near tt tt; size = near tt tt; cosine = near tt tt; size_sign = at_most tt; cosine_sign = at_most tt };
    snell = near tt tt;
    cosine_sign = at_most tt;
    bending = same refl;
    l = near tt tt;
    m = near tt tt;
    n = near tt tt;
  }
  bends (suc i) lt = absurd (omega arith)

  pub axis_whole : IsWhole sphere_setup axis_ray (axis_chain symbols)
  axis_whole = record { start = starts; index = indexed; transfer = transfers; crossing = crosses; bending = bends }

  pub axis_vertex_holds : HoldsPlace 6 axis_vertex (axis_chain symbols) 1
  unfolding ◌*Q◌ whole
  axis_vertex_holds = record { rho = inside tt tt; x = inside tt tt; y = inside tt tt; z = inside tt tt; path = inside tt tt }

  pub axis_heading_holds : HoldsHeading 6 axis_heading (axis_chain symbols) 1
  unfolding ◌*Q◌ whole
  axis_heading_holds = record { l = inside tt tt; m = inside tt tt; n = inside tt tt }

  pub axis_image_holds : HoldsPlace 6 axis_image (axis_chain symbols) 2
  unfolding ◌*Q◌ whole
  axis_image_holds = record { rho = inside tt tt; x = inside tt tt; y = inside tt tt; z = inside tt tt; path = inside tt tt }
