-- The steep ray reaches the plane that it doesn't leave.
use Rattle.std.proofs.Common.{ℕ, zero, suc, ◌<◌, refl, arith}
use Rattle.std.specs.Prelude.{pos}
use Rattle.fixdec.specs.Frac.{◌+Q◌, ◌*Q◌, ◌-Q◌, neg_Q, whole}
use Rattle.fixdec.specs.Member.{Symbols}
use Rattle.lensmodel.specs.Equations.Chains.{IsChainTo}
use Rattle.lensmodel.specs.Equations.Crossing.{Transfers, Crosses}
use Rattle.lensmodel.specs.Equations.Dispersion.{IsIndex}
use Rattle.lensmodel.specs.Setup.Media.{medium_at}
use Rattle.lensmodel.specs.Equations.Start.{Starts}
use Rattle.lensmodel.specs.Setup.Values.{eps, owner}
use Rattle.examples.proofs.Concrete.{same, at_most, less_than, near}
use Rattle.examples.specs.Worked.{glass_setup, steep_ray}
use Rattle.examples.specs.WorkedChains.{steep_chain}
use Rattle.examples.proofs.Axis.{formula}

module _ (symbols : Symbols) where
  starts : Starts glass_setup steep_ray (steep_chain symbols)
  unfolding ◌+Q◌ ◌*Q◌ ◌-Q◌ neg_Q whole
  starts = record {
    x = same refl;
    y = same refl;
    z = same refl;
    path = same refl;
    length = near tt tt;
    direction_x = near tt tt;
    direction_y = near tt tt;
    forwards = less_than tt;
  }

  indexed : (i : ℕ) → i < 2 → IsIndex (eps glass_setup) (medium_at glass_setup i) glass_setup.wave ((steep_chain symbols).glass_index (owner glass_setup i))
  unfolding ◌+Q◌ ◌*Q◌ ◌-Q◌ neg_Q whole
  indexed zero lt = record { f = record { num = pos 9; less = 3 }; positive = less_than tt; formula = formula; square = near tt tt }
  indexed (suc zero) lt = same refl
  indexed (suc (suc i)) lt = absurd (omega arith)

  transfers : (i : ℕ) → i < 1 → Transfers glass_setup (steep_chain symbols) i
  unfolding ◌+Q◌ ◌*Q◌ ◌-Q◌ neg_Q whole
  transfers zero lt = record { t = whole (pos 0); x = near tt tt; y = near tt tt; z = near tt tt; path = near tt tt; onwards = less_than tt }
  transfers (suc i) lt = absurd (omega arith)

  crosses : (i : ℕ) → i < 1 → Crosses glass_setup (steep_chain symbols) i
  unfolding ◌+Q◌ ◌*Q◌ ◌-Q◌ neg_Q whole
  crosses zero lt = record { rho = same refl; w = same refl; near_vertex = at_most tt; conic = near tt tt; sag = same refl; side = at_most tt }
  crosses (suc i) lt = absurd (omega arith)

  pub steep_reaches : IsChainTo glass_setup steep_ray 1 (steep_chain symbols)
  steep_reaches = record { start = starts; index = indexed; transfer = transfers; crossing = crosses; bending = λ i lt. absurd (omega arith) }
