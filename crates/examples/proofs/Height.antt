-- The chain of a ray at the height 6 through a sphere into glass.
use Rattle.std.proofs.Common.{ℕ, zero, suc, ◌<◌, refl, arith}
use Rattle.std.specs.Prelude.{pos}
use Rattle.fixdec.specs.Frac.{◌+Q◌, ◌*Q◌, ◌-Q◌, neg_Q, whole}
use Rattle.fixdec.specs.Member.{Symbols}
use Rattle.lensmodel.specs.Equations.Bending.{Bends}
use Rattle.lensmodel.specs.Equations.Chains.{IsWhole}
use Rattle.lensmodel.specs.Equations.Crossing.{Transfers, Crosses}
use Rattle.lensmodel.specs.Equations.Dispersion.{IsIndex}
use Rattle.lensmodel.specs.Setup.Media.{medium_at}
use Rattle.lensmodel.specs.Equations.Start.{Starts}
use Rattle.lensmodel.specs.Setup.Values.{eps, owner}
use Rattle.examples.proofs.Concrete.{same, at_most, less_than, near}
use Rattle.examples.specs.Worked.{sphere_setup, level_ray, whole_decimal}
use Rattle.examples.specs.WorkedChains.{height_chain, digits}
use Rattle.examples.proofs.Axis.{formula}

module _ (symbols : Symbols) where
  starts : Starts sphere_setup (level_ray (whole_decimal (pos 6))) (height_chain symbols)
  unfolding ◌+Q◌ ◌*Q◌ ◌-Q◌ neg_Q whole
  starts = record {
    x = same refl;
    y = same refl;
    z = same refl;
    path = same refl;
    length = near tt tt;
    direction_x = near tt tt;
    direction_y = near tt tt;
    forwards = less_than tt;
  }

  indexed : (i : ℕ) → i < 2 → IsIndex (eps sphere_setup) (medium_at sphere_setup i) sphere_setup.wave ((height_chain symbols).glass_index (owner sphere_setup i))
  unfolding ◌+Q◌ ◌*Q◌ ◌-Q◌ neg_Q whole
  indexed zero lt = same refl
  indexed (suc zero) lt = record { f = record { num = pos 9; less = 3 }; positive = less_than tt; formula = formula; square = near tt tt }
  indexed (suc (suc i)) lt = absurd (omega arith)

  transfers : (i : ℕ) → i < 2 → Transfers sphere_setup (height_chain symbols) i
  unfolding ◌+Q◌ ◌*Q◌ ◌-Q◌ neg_Q whole
  transfers zero lt = record { t = whole (pos 2); x = near tt tt; y = near tt tt; z = near tt tt; path = near tt tt; onwards = less_than tt }
  transfers (suc zero) lt = record { t = digits (pos 8220201853215573); x = near tt tt; y = near tt tt; z = near tt tt; path = near tt tt; onwards = less_than tt }
  transfers (suc (suc i)) lt = absurd (omega arith)

  crosses : (i : ℕ) → i < 2 → Crosses sphere_setup (height_chain symbols) i
  unfolding ◌+Q◌ ◌*Q◌ ◌-Q◌ neg_Q whole
  crosses zero lt = record { rho = same refl; w = same refl; near_vertex = at_most tt; conic = near tt tt; sag = same refl; side = at_most tt }
  crosses (suc zero) lt = record { rho = same refl; w = same refl; near_vertex = at_most tt; conic = near tt tt; sag = same refl; side = at_most tt }
  crosses (suc (suc i)) lt = absurd (omega arith)

  bends : (i : ℕ) → suc i < 2 → Bends sphere_setup (height_chain symbols) i
  unfolding ◌+Q◌ ◌*Q◌ ◌-Q◌ neg_Q whole
  bends zero lt = record {
    e = record { num = pos 1; less = 7 };
    g = record { num = pos 5; less = 3 };
    cos = record { num = pos 4; less = 4 };
    cos' = digits (pos 916515138991168);
    k = digits (pos 574772708486752);
    normal = record { slope = near tt tt; size = near tt tt; cosine = near tt tt; size_sign = at_most tt; cosine_sign = at_most tt };
    snell = near tt tt;
    cosine_sign = at_most tt;
    bending = same refl;
    l = near tt tt;
    m = near tt tt;
    n = near tt tt;
  }
  bends (suc i) lt = absurd (omega arith)

  pub height_whole : IsWhole sphere_setup (level_ray (whole_decimal (pos 6))) (height_chain symbols)
  height_whole = record { start = starts; index = indexed; transfer = transfers; crossing = crosses; bending = bends }
