-- The sample lenses of worked rows are well formed, by computing.
use Rattle.std.proofs.Common.{ℕ, refl}
use Rattle.std.specs.Prelude.{pos, Some, None}
use Rattle.fixdec.specs.Frac.{whole, ◌*Q◌}
use Rattle.fixdec.specs.Interval.{ends, iv_plus, iv_minus, iv_times, iv_square, iv_over, iv_widen, iv_shift, iv_clip}
use Rattle.fixdec.specs.Scaled.{dec_floor, dec_ceil, dec_span, dec_shifted}
use Rattle.fixdec.specs.Zone.{zone, zone_span, norm, least_power}
use Rattle.lensmodel.specs.Rows.Index.{index_rows}
use Rattle.lensmodel.specs.Setup.WellFormed.{IsWellFormed}
use Rattle.lensmodel.specs.Setup.WholeFaults.{whole_fault}
use Rattle.lensmodel.specs.declared.glass.Medium.TheVariants.{Air}
use Rattle.refract.specs.Decided.{well_formed}
use Rattle.ladder.specs.RowSamples.{between, bowl, box, finest, flat_glass, mirror, paraboloid, spherical, triplet}
use Rattle.ladder.specs.Samples.{flat, narrow, sample, sphere}

-- what is opened to compute
unfoldable opened : ℕ
unfolding whole_fault index_rows ends iv_plus iv_minus iv_times iv_square iv_over iv_widen iv_shift iv_clip dec_floor dec_ceil dec_span dec_shifted zone zone_span norm least_power whole ◌*Q◌
opened = 0

pub glass_well_formed : IsWellFormed (between sphere Air flat_glass)
unfolding opened
glass_well_formed = well_formed (between sphere Air flat_glass) refl refl refl refl refl refl refl

pub inside_well_formed : IsWellFormed (between (flat (pos 4)) flat_glass Air)
unfolding opened
inside_well_formed = well_formed (between (flat (pos 4)) flat_glass Air) refl refl refl refl refl refl refl

pub spherical_well_formed : IsWellFormed (sample spherical narrow None)
unfolding opened
spherical_well_formed = well_formed (sample spherical narrow None) refl refl refl refl refl refl refl

pub bowl_well_formed : IsWellFormed (sample bowl narrow None)
unfolding opened
bowl_well_formed = well_formed (sample bowl narrow None) refl refl refl refl refl refl refl

pub paraboloid_well_formed : IsWellFormed (sample paraboloid narrow None)
unfolding opened
paraboloid_well_formed = well_formed (sample paraboloid narrow None) refl refl refl refl refl refl refl

pub mirror_well_formed : IsWellFormed (sample mirror narrow None)
unfolding opened
mirror_well_formed = well_formed (sample mirror narrow None) refl refl refl refl refl refl refl

pub finest_well_formed : IsWellFormed finest
unfolding opened
finest_well_formed = well_formed finest refl refl refl refl refl refl refl

pub triplet_well_formed : IsWellFormed (triplet None)
unfolding opened
triplet_well_formed = well_formed (triplet None) refl refl refl refl refl refl refl

pub box_well_formed : IsWellFormed (triplet (Some box))
unfolding opened
box_well_formed = well_formed (triplet (Some box)) refl refl refl refl refl refl refl
