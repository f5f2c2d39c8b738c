-- Worked aspheres, by computing.
use Rattle.std.proofs.Common.{ℕ, refl}
use Rattle.std.specs.Prelude.{pos, negsuc, Some}
use Rattle.fixdec.specs.Interval.{iv_size}
use Rattle.fixdec.specs.IntervalOperations.{operations}
use Rattle.fixdec.specs.Zone.{zone, norm, least_power}
use Rattle.examples.specs.ComputedAspheres.{SphericalHeight, BentHeight, PastZone, AtZone, BowlLost, BowlRoot, BowlAsConic, LastCell, ConicAsphere, ZoneSquare, AsphereEdge, small_bowl, wide_bowl, far_conic, into_glass, spherical, bent, bowl, paraboloid, steep_ray, asphere_setup}
use Rattle.examples.specs.ComputedRows.{ones, tenths}
use Rattle.examples.specs.Worked.{level_ray}
use Rattle.lensmodel.specs.Rows.Sag.{sag_rows}
use Rattle.lensmodel.specs.Rows.SlopeRounds.{round_rows, next_rows}
use Rattle.examples.proofs.ComputedRows.{opened}
use Rattle.examples.proofs.TriedCells.{row_by_trying, outcome_by_trying}

-- what is opened to compute the outcome of an even asphere
unfoldable pub opened_aspheres : ℕ
unfolding opened operations iv_size zone norm least_power sag_rows round_rows next_rows
opened_aspheres = 0

pub spherical_height : SphericalHeight
unfolding opened_aspheres
spherical_height = row_by_trying (asphere_setup spherical) (level_ray (ones 6)) _ refl refl

pub bent_height : BentHeight
unfolding opened_aspheres
bent_height = row_by_trying (asphere_setup bent) (level_ray (ones 6)) _ refl refl

pub past_zone : PastZone
unfolding opened_aspheres
past_zone = row_by_trying (asphere_setup bent) (level_ray (ones 9)) _ refl refl

pub at_zone : AtZone
unfolding opened_aspheres
at_zone = row_by_trying (asphere_setup bent) (level_ray (tenths 88)) _ refl refl

pub bowl_lost : BowlLost
unfolding opened_aspheres
bowl_lost = row_by_trying (asphere_setup bowl) steep_ray _ refl refl

pub bowl_as_conic : BowlAsConic
unfolding opened
bowl_as_conic = row_by_trying (asphere_setup paraboloid) steep_ray _ refl refl

pub bowl_root : BowlRoot
unfolding opened_aspheres
bowl_root = outcome_by_trying 12 (asphere_setup bowl) steep_ray _ refl

pub last_cell : LastCell
unfolding opened_aspheres
last_cell = row_by_trying (asphere_setup wide_bowl) (level_ray (record { mant = pos 989; exp = negsuc 1 })) _ refl refl

pub conic_asphere : ConicAsphere
unfolding opened_aspheres
conic_asphere = row_by_trying (into_glass far_conic) (level_ray (ones 3)) _ refl refl

pub zone_between : ZoneSquare
unfolding opened_aspheres
zone_between = row_by_trying (asphere_setup small_bowl) (level_ray (record { mant = pos 550005; exp = negsuc 5 })) _ refl refl

pub edge_asphere : AsphereEdge
unfolding opened_aspheres
edge_asphere = row_by_trying (into_glass (record spherical { semi = Some record { mant = pos 1; exp = pos 1 } })) (level_ray (record { mant = pos 1; exp = pos 1 })) _ refl refl
