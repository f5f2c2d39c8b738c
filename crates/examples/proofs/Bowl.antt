-- The two chains of one ray through a bowl.
use Rattle.std.proofs.Common.{ℕ, zero, suc, ◌<◌, refl, arith}
use Rattle.std.specs.Prelude.{pos}
use Rattle.fixdec.specs.Frac.{◌≈◌, ◌+Q◌, ◌*Q◌, ◌-Q◌, neg_Q, whole}
use Rattle.fixdec.specs.Member.{Symbols}
use Rattle.lensmodel.specs.Equations.Bending.{Bends}
use Rattle.lensmodel.specs.Equations.Chains.{IsWhole}
use Rattle.lensmodel.specs.Equations.Crossing.{Transfers, Crosses}
use Rattle.lensmodel.specs.Equations.Dispersion.{IsIndex}
use Rattle.lensmodel.specs.Setup.Media.{medium_at}
use Rattle.lensmodel.specs.Equations.Start.{Starts}
use Rattle.lensmodel.specs.Setup.Values.{surface_at, eps, owner}
use Rattle.examples.proofs.Concrete.{same, at_most, less_than, near}
use Rattle.examples.specs.Worked.{bowl_setup, bowl_ray}
use Rattle.examples.specs.WorkedChains.{bowl_near, bowl_far, digits}
use Rattle.fixdec.specs.Scaled.{dec_ceil}
use Rattle.fixdec.specs.Zone.{zone}
use Rattle.lensmodel.specs.Equations.Crossing.{zone_of}

module _ (symbols : Symbols) where
  starts_near : Starts bowl_setup bowl_ray (bowl_near symbols)
  unfolding ◌+Q◌ ◌*Q◌ ◌-Q◌ neg_Q whole
  starts_near = record {
    x = same refl;
    y = same refl;
    z = same refl;
    path = same refl;
    length = near tt tt;
    direction_x = near tt tt;
    direction_y = near tt tt;
    forwards = less_than tt;
  }

  indexed_near : (i : ℕ) → i < 2 → IsIndex (eps bowl_setup) (medium_at bowl_setup i) bowl_setup.wave ((bowl_near symbols).glass_index (owner bowl_setup i))
  unfolding ◌+Q◌ ◌*Q◌ ◌-Q◌ neg_Q whole
  indexed_near zero lt = same refl
  indexed_near (suc zero) lt = same refl
  indexed_near (suc (suc i)) lt = absurd (omega arith)

  transfers_near : (i : ℕ) → i < 2 → Transfers bowl_setup (bowl_near symbols) i
  unfolding ◌+Q◌ ◌*Q◌ ◌-Q◌ neg_Q whole
  transfers_near zero lt = record { t = digits (pos 127475487839820); x = near tt tt; y = near tt tt; z = near tt tt; path = near tt tt; onwards = less_than tt }
  transfers_near (suc zero) lt = record { t = digits (pos 20268602566531319); x = near tt tt; y = near tt tt; z = near tt tt; path = near tt tt; onwards = less_than tt }
  transfers_near (suc (suc i)) lt = absurd (omega arith)

  crosses_near : (i : ℕ) → i < 2 → Crosses bowl_setup (bowl_near symbols) i
  unfolding ◌+Q◌ ◌*Q◌ ◌-Q◌ neg_Q whole zone dec_ceil
  crosses_near zero lt = record { rho = same refl; w = same refl; near_vertex = at_most tt; conic = near tt tt; sag = near tt tt; side = at_most tt }
  crosses_near (suc zero) lt = record { rho = same refl; w = same refl; near_vertex = at_most tt; conic = near tt tt; sag = same refl; side = at_most tt }
  crosses_near (suc (suc i)) lt = absurd (omega arith)

  bends_near : (i : ℕ) → suc i < 2 → Bends bowl_setup (bowl_near symbols) i
  bends_near zero lt = record { l = same refl; m = same refl; n = same refl }
  bends_near (suc i) lt = absurd (omega arith)

  pub bowl_near_whole : IsWhole bowl_setup bowl_ray (bowl_near symbols)
  bowl_near_whole = record { start = starts_near; index = indexed_near; transfer = transfers_near; crossing = crosses_near; bending = bends_near }

module _ (symbols : Symbols) where
  starts_far : Starts bowl_setup bowl_ray (bowl_far symbols)
  unfolding ◌+Q◌ ◌*Q◌ ◌-Q◌ neg_Q whole
  starts_far = record {
    x = same refl;
    y = same refl;
    z = same refl;
    path = same refl;
    length = near tt tt;
    direction_x = near tt tt;
    direction_y = near tt tt;
    forwards = less_than tt;
  }

  indexed_far : (i : ℕ) → i < 2 → IsIndex (eps bowl_setup) (medium_at bowl_setup i) bowl_setup.wave ((bowl_far symbols).glass_index (owner bowl_setup i))
  unfolding ◌+Q◌ ◌*Q◌ ◌-Q◌ neg_Q whole
  indexed_far zero lt = same refl
  indexed_far (suc zero) lt = same refl
  indexed_far (suc (suc i)) lt = absurd (omega arith)

  transfers_far : (i : ℕ) → i < 2 → Transfers bowl_setup (bowl_far symbols) i
  unfolding ◌+Q◌ ◌*Q◌ ◌-Q◌ neg_Q whole
  transfers_far zero lt = record { t = digits (pos 1147279390558377); x = near tt tt; y = near tt tt; z = near tt tt; path = near tt tt; onwards = less_than tt }
  transfers_far (suc zero) lt = record { t = digits (pos 19248798663812763); x = near tt tt; y = near tt tt; z = near tt tt; path = near tt tt; onwards = less_than tt }
  transfers_far (suc (suc i)) lt = absurd (omega arith)

  crosses_far : (i : ℕ) → i < 2 → Crosses bowl_setup (bowl_far symbols) i
  unfolding ◌+Q◌ ◌*Q◌ ◌-Q◌ neg_Q whole zone dec_ceil
  crosses_far zero lt = record { rho = same refl; w = same refl; near_vertex = at_most tt; conic = near tt tt; sag = near tt tt; side = at_most tt }
  crosses_far (suc zero) lt = record { rho = same refl; w = same refl; near_vertex = at_most tt; conic = near tt tt; sag = same refl; side = at_most tt }
  crosses_far (suc (suc i)) lt = absurd (omega arith)

  bends_far : (i : ℕ) → suc i < 2 → Bends bowl_setup (bowl_far symbols) i
  bends_far zero lt = record { l = same refl; m = same refl; n = same refl }
  bends_far (suc i) lt = absurd (omega arith)

  pub bowl_far_whole : IsWhole bowl_setup bowl_ray (bowl_far symbols)
  bowl_far_whole = record { start = starts_far; index = indexed_far; transfer = transfers_far; crossing = crosses_far; bending = bends_far }

-- its zone is 5.5
pub bowl_zone : zone_of (surface_at bowl_setup 1).semi ≈ record { num = pos 11; less = 1 }
unfolding zone dec_ceil
bowl_zone = same refl
