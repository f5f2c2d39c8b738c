-- The chain of a slanted ray through a plane, and its place in the printed intervals.
use Rattle.std.proofs.Common.{ℕ, zero, suc, ◌<◌, refl, arith}
use Rattle.std.specs.Prelude.{pos}
use Rattle.fixdec.specs.Frac.{◌+Q◌, ◌*Q◌, ◌-Q◌, neg_Q, whole}
use Rattle.fixdec.specs.Member.{Symbols}
use Rattle.lensmodel.specs.Equations.Bending.{Bends}
use Rattle.lensmodel.specs.Equations.Chains.{IsWhole}
use Rattle.lensmodel.specs.Claims.RowClaims.{HoldsPlace, HoldsHeading}
use Rattle.lensmodel.specs.Equations.Crossing.{Transfers, Crosses}
use Rattle.lensmodel.specs.Equations.Dispersion.{IsIndex}
use Rattle.lensmodel.specs.Setup.Media.{medium_at}
use Rattle.lensmodel.specs.Equations.Start.{Starts}
use Rattle.lensmodel.specs.Setup.Values.{eps, owner}
use Rattle.examples.specs.Worked.{plane_setup, slanted_ray}
use Rattle.examples.specs.WorkedChains.{slanted_chain}
use Rattle.examples.specs.WorkedRow.{slanted_vertex, slanted_heading, slanted_image}
use Rattle.examples.proofs.Concrete.{same, at_most, less_than, near, inside}

module _ (symbols : Symbols) where
  starts : Starts plane_setup slanted_ray (slanted_chain symbols)
  unfolding ◌+Q◌ ◌*Q◌ ◌-Q◌ neg_Q whole
  starts = record {
    x = same refl;
    y = same refl;
    z = same refl;
    path = same refl;
    length = near tt tt;
    direction_x = near tt tt;
    direction_y = near tt tt;
    forwards = less_than tt;
  }

  indexed : (i : ℕ) → i < 2 → IsIndex (eps plane_setup) (medium_at plane_setup i) plane_setup.wave ((slanted_chain symbols).glass_index (owner plane_setup i))
  unfolding ◌+Q◌ ◌*Q◌ ◌-Q◌ neg_Q whole
  indexed zero lt = same refl
  indexed (suc zero) lt = same refl
  indexed (suc (suc i)) lt = absurd (omega arith)

  transfers : (i : ℕ) → i < 2 → Transfers plane_setup (slanted_chain symbols) i
  unfolding ◌+Q◌ ◌*Q◌ ◌-Q◌ neg_Q whole
  transfers zero lt = record { t = whole (pos 0); x = near tt tt; y = near tt tt; z = near tt tt; path = near tt tt; onwards = less_than tt }
  transfers (suc zero) lt = record { t = whole (pos 5); x = near tt tt; y = near tt tt; z = near tt tt; path = near tt tt; onwards = less_than tt }
  transfers (suc (suc i)) lt = absurd (omega arith)

  crosses : (i : ℕ) → i < 2 → Crosses plane_setup (slanted_chain symbols) i
  unfolding ◌+Q◌ ◌*Q◌ ◌-Q◌ neg_Q whole
  crosses zero lt = record { rho = same refl; w = same refl; near_vertex = at_most tt; conic = near tt tt; sag = same refl; side = at_most tt }
  crosses (suc zero) lt = record { rho = same refl; w = same refl; near_vertex = at_most tt; conic = near tt tt; sag = same refl; side = at_most tt }
  crosses (suc (suc i)) lt = absurd (omega arith)

  bends : (i : ℕ) → suc i < 2 → Bends plane_setup (slanted_chain symbols) i
  bends zero lt = record { l = same refl; m = same refl; n = same refl }
  bends (suc i) lt = absurd (omega arith)

  pub slanted_whole : IsWhole plane_setup slanted_ray (slanted_chain symbols)
  slanted_whole = record { start = starts; index = indexed; transfer = transfers; crossing = crosses; bending = bends }

  pub slanted_vertex_holds : HoldsPlace 6 slanted_vertex (slanted_chain symbols) 1
  unfolding ◌*Q◌ whole
  slanted_vertex_holds = record { rho = inside tt tt; x = inside tt tt; y = inside tt tt; z = inside tt tt; path = inside tt tt }

  pub slanted_heading_holds : HoldsHeading 6 slanted_heading (slanted_chain symbols) 1
  unfolding ◌*Q◌ whole
  slanted_heading_holds = record { l = inside tt tt; m = inside tt tt; n = inside tt tt }

  pub slanted_image_holds : HoldsPlace 6 slanted_image (slanted_chain symbols) 2
  unfolding ◌*Q◌ whole
  slanted_image_holds = record { rho = inside tt tt; x = inside tt tt; y = inside tt tt; z = inside tt tt; path = inside tt tt }
