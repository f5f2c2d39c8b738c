-- The chain of a ray at the height 2 into a parabola that reflects.
use Rattle.std.proofs.Common.{ℕ, zero, suc, ◌<◌, refl, arith}
use Rattle.std.specs.Prelude.{pos, negsuc}
use Rattle.fixdec.specs.Frac.{◌+Q◌, ◌*Q◌, ◌-Q◌, neg_Q, whole}
use Rattle.fixdec.specs.Member.{Symbols}
use Rattle.lensmodel.specs.Equations.Bending.{Bends}
use Rattle.lensmodel.specs.Equations.Chains.{IsWhole}
use Rattle.lensmodel.specs.Equations.Crossing.{Transfers, Crosses}
use Rattle.lensmodel.specs.Equations.Dispersion.{IsIndex}
use Rattle.lensmodel.specs.Setup.Media.{medium_at}
use Rattle.lensmodel.specs.Equations.Start.{Starts}
use Rattle.lensmodel.specs.Setup.Values.{eps, owner}
use Rattle.examples.proofs.Concrete.{same, at_most, less_than, near}
use Rattle.examples.specs.Worked.{mirror_setup, level_ray, whole_decimal}
use Rattle.examples.specs.WorkedChains.{mirror_chain, digits}

module _ (symbols : Symbols) where
  starts : Starts mirror_setup (level_ray (whole_decimal (pos 2))) (mirror_chain symbols)
  unfolding ◌+Q◌ ◌*Q◌ ◌-Q◌ neg_Q whole
  starts = record {
    x = same refl;
    y = same refl;
    z = same refl;
    path = same refl;
    length = near tt tt;
    direction_x = near tt tt;
    direction_y = near tt tt;
    forwards = less_than tt;
  }

  indexed : (i : ℕ) → i < 2 → IsIndex (eps mirror_setup) (medium_at mirror_setup i) mirror_setup.wave ((mirror_chain symbols).glass_index (owner mirror_setup i))
  unfolding ◌+Q◌ ◌*Q◌ ◌-Q◌ neg_Q whole
  indexed zero lt = same refl
  indexed (suc zero) lt = same refl
  indexed (suc (suc i)) lt = absurd (omega arith)

  transfers : (i : ℕ) → i < 2 → Transfers mirror_setup (mirror_chain symbols) i
  unfolding ◌+Q◌ ◌*Q◌ ◌-Q◌ neg_Q whole
  transfers zero lt = record { t = record { num = negsuc 0; less = 4 }; x = near tt tt; y = near tt tt; z = near tt tt; path = near tt tt; onwards = less_than tt }
  transfers (suc zero) lt = record { t = record { num = pos 26; less = 4 }; x = near tt tt; y = near tt tt; z = near tt tt; path = near tt tt; onwards = less_than tt }
  transfers (suc (suc i)) lt = absurd (omega arith)

  crosses : (i : ℕ) → i < 2 → Crosses mirror_setup (mirror_chain symbols) i
  unfolding ◌+Q◌ ◌*Q◌ ◌-Q◌ neg_Q whole
  crosses zero lt = record { rho = same refl; w = same refl; near_vertex = at_most tt; conic = near tt tt; sag = same refl; side = at_most tt }
  crosses (suc zero) lt = record { rho = same refl; w = same refl; near_vertex = at_most tt; conic = near tt tt; sag = same refl; side = at_most tt }
  crosses (suc (suc i)) lt = absurd (omega arith)

  bends : (i : ℕ) → suc i < 2 → Bends mirror_setup (mirror_chain symbols) i
  unfolding ◌+Q◌ ◌*Q◌ ◌-Q◌ neg_Q whole
  bends zero lt = record {
    e = record { num = negsuc 0; less = 9 };
    g = digits (pos 1019803902718557);
    cos = digits (pos 1019803902718557) *Q record { num = pos 25; less = 25 };
    normal = record { slope = near tt tt; size = near tt tt; cosine = near tt tt; size_sign = at_most tt; cosine_sign = at_most tt };
    l = near tt tt;
    m = near tt tt;
    n = near tt tt;
  }
  bends (suc i) lt = absurd (omega arith)

  pub mirror_whole : IsWhole mirror_setup (level_ray (whole_decimal (pos 2))) (mirror_chain symbols)
  mirror_whole = record { start = starts; index = indexed; transfer = transfers; crossing = crosses; bending = bends }
