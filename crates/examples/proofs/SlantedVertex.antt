-- The printed place and heading of a slanted ray at the plane hold every chain.
use Rattle.std.proofs.Common.{refl, arith, [], ◌∷◌}
use Rattle.std.proofs.lemmas.Int.{ints}
use Rattle.std.specs.Prelude.{pos}
use Rattle.fixdec.specs.Decimal.{value}
use Rattle.fixdec.specs.Frac.{Frac, ◌≈◌, ◌≤Q◌, ◌+Q◌, ◌*Q◌, whole}
use Rattle.fixdec.specs.Algebra.FracLaws.{≈_sym, ≈_trans}
use Rattle.fixdec.specs.Algebra.Linear.{linear, no_fact, reads}
use Rattle.fixdec.specs.Member.{IsMember, Symbols}
use Rattle.fixdec.specs.Algebra.Within.{HasSize, within_mul, within_more, within_same, within_to, within_whole}
use Rattle.lensmodel.specs.Equations.Bending.{Stays}
use Rattle.lensmodel.specs.Equations.Chain.{Chain, index_behind}
use Rattle.lensmodel.specs.Equations.Chains.{IsChainTo}
use Rattle.lensmodel.specs.Claims.RowClaims.{HoldsPlace, HoldsHeading}
use Rattle.lensmodel.specs.Equations.Crossing.{Transfers, Crosses}
use Rattle.lensmodel.specs.Equations.Start.{slope_x, slope_y}
use Rattle.lensmodel.specs.Setup.Values.{zero_decimal, curvature, distance, eps}
use Rattle.examples.specs.Worked.{plane_setup, slanted_ray}
use Rattle.examples.specs.WorkedRow.{span, slanted_vertex, slanted_heading}
use Rattle.examples.proofs.Along.{keep}
use Rattle.examples.proofs.Boxes.{index_written}
use Rattle.examples.proofs.Concrete.{same, at_most}
use Rattle.examples.proofs.Level.{across}
use Rattle.examples.proofs.Slim.{along_high, along_low, sag_size, first_step, shifted}
use Rattle.examples.proofs.SlimEnds.{member_same, member_more, near_zero, rho_at_vertex, heading_m, m_size}

pub some : whole (pos 0) ≤Q eps plane_setup
unfolding whole
some = at_most tt

pub small : eps plane_setup *Q whole (pos 1000000000) ≤Q whole (pos 1)
unfolding ◌*Q◌ whole
small = at_most tt

below_one : eps plane_setup ≤Q whole (pos 1)
unfolding whole
below_one = at_most tt

slopes : (whole (pos 1) +Q slope_x slanted_ray *Q slope_x slanted_ray +Q slope_y slanted_ray *Q slope_y slanted_ray) *Q whole (pos 16) ≈ whole (pos 25)
unfolding ◌+Q◌ ◌*Q◌ whole
slopes = same refl

pub slope : slope_y slanted_ray *Q whole (pos 4) ≈ whole (pos 3)
unfolding ◌*Q◌ whole
slope = same refl

pub origin : value zero_decimal ≈ whole (pos 0)
unfolding ◌*Q◌ whole
origin = same refl

first_flat : (symbols : Symbols) → curvature plane_setup symbols 1 ≈ whole (pos 0)
unfolding ◌+Q◌ ◌*Q◌ whole
first_flat symbols = same refl

pub last_flat : (symbols : Symbols) → curvature plane_setup symbols 2 ≈ whole (pos 0)
unfolding ◌+Q◌ ◌*Q◌ whole
last_flat symbols = same refl

pub apart : (symbols : Symbols) → distance plane_setup symbols 1 ≈ whole (pos 4)
unfolding ◌+Q◌ ◌*Q◌ whole
apart symbols = same refl

pub once : (e : Frac) → e ≈ e *Q whole (pos 1)
once e = linear (e ∷ []) _ _ (search reads depth 12) no_fact tt

-- up to the plane
module _ (c : Chain) (h : IsChainTo plane_setup slanted_ray 1 c) where
  pub line : Transfers plane_setup c 0
  line = h.transfer 0 (omega arith)

  pub point : Crosses plane_setup c 0
  point = h.crossing 0 (omega arith)

  air : index_behind plane_setup c 0 ≈ whole (pos 1)
  air = ≈_trans (index_written plane_setup c 0 refl) (h.index 0 (omega arith))

  pub high : c.n 0 *Q whole (pos 1000000) ≤Q whole (pos 800001)
  high = along_high (eps plane_setup) some small _ (c.n 0) slopes h.start.length h.start.forwards

  pub low : whole (pos 799999) ≤Q c.n 0 *Q whole (pos 1000000)
  low = along_low (eps plane_setup) some small _ (c.n 0) slopes h.start.length h.start.forwards

  pub l_size : HasSize (eps plane_setup) (c.l 0)
  l_size = across (eps plane_setup) _ (c.n 0) (c.l 0) origin h.start.direction_x

  pub m_in : IsMember 6 (span (pos 599998) (pos 600002)) (c.m 0)
  m_in = heading_m (eps plane_setup) some small _ (c.n 0) (c.m 0) slope high low h.start.direction_y

  pub sag : HasSize (eps plane_setup) (c.conic_sag 1)
  sag = sag_size (eps plane_setup) some small _ _ (c.conic_sag 1) (first_flat c.symbols) point.conic

  step : HasSize (eps plane_setup *Q whole (pos 4)) line.t
  step = first_step (eps plane_setup) some small (c.n 0) (c.z 0) (whole (pos 0)) (c.z 1) (c.conic_sag 1) line.t h.start.forwards low h.start.z keep point.sag sag line.z

  pub x_size : HasSize (eps plane_setup *Q whole (pos 5)) (c.x 1)
  x_size =
      shifted (eps plane_setup) some small (c.x 0) _ (c.x 1) (≈_trans h.start.x origin) (within_mul (within_more below_one l_size) step) line.x

  pub y_size : HasSize (eps plane_setup *Q whole (pos 5)) (c.y 1)
  y_size =
      shifted (eps plane_setup) some small (c.y 0) _ (c.y 1) (≈_trans h.start.y origin)
      (within_mul (m_size (eps plane_setup) some small (c.m 0) m_in) step) line.y

  pub path_size : HasSize (eps plane_setup *Q whole (pos 5)) (c.path 1)
  path_size =
      shifted (eps plane_setup) some small (c.path 0) _ (c.path 1) h.start.path (within_mul (within_same (≈_sym air) (within_whole (pos 1))) step) line.path

  pub at_vertex : HoldsPlace 6 slanted_vertex c 1
  at_vertex =
      let x = near_zero (eps plane_setup) some small 5 (c.x 1) (omega arith) x_size in
      let y = near_zero (eps plane_setup) some small 5 (c.y 1) (omega arith) y_size in
      record {
        rho = rho_at_vertex (eps plane_setup) some small (c.x 1) (c.y 1) (c.rho 1) point.rho x y;
        x = member_more (omega (arith, ints)) (omega (arith, ints)) x;
        y = member_more (omega (arith, ints)) (omega (arith, ints)) y;
        z = near_zero (eps plane_setup) some small 1 (c.z 1) (omega arith) (within_to (once _) (within_same (≈_sym point.sag) sag));
        path = member_more (omega (arith, ints)) (omega (arith, ints)) (near_zero (eps plane_setup) some small 5 (c.path 1) (omega arith) path_size);
      }

  pub behind_vertex : Stays c 0 → HoldsHeading 6 slanted_heading c 1
  behind_vertex stays = record {
    l = member_same (≈_sym stays.l) (near_zero (eps plane_setup) some small 1 (c.l 0) (omega arith) (within_to (once _) l_size));
    m = member_same (≈_sym stays.m) m_in;
    n = member_same (≈_sym stays.n) (record { low = low; high = high });
  }
