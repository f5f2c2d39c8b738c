-- Worked rows, by computing.
use Rattle.std.proofs.Common.{ℕ, refl}
use Rattle.std.specs.Prelude.{pos, negsuc}
use Rattle.fixdec.specs.Interval.{ends, iv_plus, iv_minus, iv_times, iv_square, iv_over, iv_widen, iv_shift, iv_clip}
use Rattle.fixdec.specs.Scaled.{dec_floor, dec_ceil, dec_span, dec_shifted}
use Rattle.lensmodel.specs.Rows.Bending.{reflection_rows, stay_rows, normal_rows, incidence_rows, refraction_rows, bend_rows}
use Rattle.examples.specs.ComputedRows.{SlantedPlane, NearObject, SphereHeight, GlassAxis, MirrorFocus, PastSphere, BehindEquator, TotalReflection, OutsideRim, InsideRim, FanRay, AimedRay, ones, tenths, ray_sloped, plane_before, near_object, air_sphere_setup, bounded_by}
use Rattle.examples.specs.Worked.{level_ray, mirror_setup, glass_setup, rim_setup, plane_setup, slanted_ray, sphere_setup, axis_ray}
use Rattle.examples.specs.ComputedScales.{RimTie, WideBeforeUndecided, VignettedBeforeWide, FinerPasses, SphereEdge, GrazingRay, FarImage, FarthestImage, FinestResidual, LessFarImage, FartherImage, FinestPasses, CoarseResidual, FineResidual, StartLost}
use Rattle.lensmodel.specs.Rows.Crossing.{arrival_rows, meet_standard_rows}
use Rattle.lensmodel.specs.Rows.Index.{index_rows}
use Rattle.lensmodel.specs.Rows.Preparation.{preparation_by, preparation_rows}
use Rattle.lensmodel.specs.Rows.Start.{start_rows}
use Rattle.lensmodel.specs.Setup.Values.{zero_decimal}
use Rattle.lensmodel.specs.declared.launch.Launch.TheVariants.{Plain, Pupil}
use Rattle.examples.proofs.TriedCells.{row_with_cells, row_by_trying}

-- what is opened to compute a row
unfoldable pub opened : ℕ
unfolding row_with_cells start_rows preparation_by preparation_rows arrival_rows meet_standard_rows reflection_rows stay_rows normal_rows incidence_rows refraction_rows bend_rows index_rows ends iv_plus iv_minus iv_times iv_square iv_over iv_widen iv_shift iv_clip dec_floor dec_ceil dec_span dec_shifted
opened = 0

pub slanted_plane : SlantedPlane
unfolding opened
slanted_plane = row_by_trying plane_setup slanted_ray _ refl refl

pub sphere_height : SphereHeight
unfolding opened
sphere_height = row_by_trying air_sphere_setup (level_ray (ones 6)) _ refl refl

pub glass_axis : GlassAxis
unfolding opened
glass_axis = row_by_trying sphere_setup axis_ray _ refl refl

pub mirror_focus : MirrorFocus
unfolding opened
mirror_focus = row_by_trying mirror_setup (level_ray (ones 2)) _ refl refl

pub past_sphere : PastSphere
unfolding opened
past_sphere = row_by_trying sphere_setup (level_ray (ones 11)) _ refl refl

pub behind_equator : BehindEquator
unfolding opened
behind_equator = row_by_trying air_sphere_setup (Plain zero_decimal (ones 19) zero_decimal (record { mant = negsuc 6; exp = negsuc 0 })) _ refl refl

pub total_reflection : TotalReflection
unfolding opened
total_reflection = row_by_trying glass_setup (ray_sloped (tenths 12)) _ refl refl

pub outside_rim : OutsideRim
unfolding opened
outside_rim = row_by_trying rim_setup (level_ray (tenths 51)) _ refl refl

pub inside_rim : InsideRim
unfolding opened
inside_rim = row_by_trying rim_setup (level_ray (tenths 49)) _ refl refl

pub rim_tie : RimTie
unfolding opened
rim_tie = row_by_trying rim_setup (level_ray (ones 5)) _ refl refl

pub wide_before_undecided : WideBeforeUndecided
unfolding opened
wide_before_undecided = row_by_trying (bounded_by (negsuc 11) rim_setup) (level_ray (ones 5)) _ refl refl

pub vignetted_before_wide : VignettedBeforeWide
unfolding opened
vignetted_before_wide = row_by_trying (bounded_by (negsuc 11) rim_setup) (level_ray (tenths 51)) _ refl refl

pub finer_passes : FinerPasses
unfolding opened
finer_passes = row_by_trying (bounded_by (negsuc 3) plane_setup) slanted_ray _ refl refl

pub sphere_edge : SphereEdge
unfolding opened
sphere_edge = row_by_trying sphere_setup (level_ray (record { mant = pos 1; exp = pos 1 })) _ refl refl

pub grazing_ray : GrazingRay
unfolding opened
grazing_ray = row_by_trying glass_setup (ray_sloped (record { mant = pos 894427190999916; exp = negsuc 14 })) _ refl refl

pub coarse_residual : CoarseResidual
coarse_residual = refl

pub fine_residual : FineResidual
fine_residual = refl

pub far_image : FarImage
unfolding opened
far_image = row_by_trying (plane_before (record { mant = pos 1; exp = pos 7 })) axis_ray _ refl refl

pub farthest_image : FarthestImage
unfolding opened
farthest_image = row_by_trying (plane_before (record { mant = pos 1; exp = pos 30 })) axis_ray _ refl refl

pub finest_residual : FinestResidual
unfolding opened
finest_residual = row_by_trying (record rim_setup { res = 14 }) (level_ray (record { mant = pos 49999999999; exp = negsuc 9 })) _ refl refl

pub fan_ray : FanRay
unfolding opened
fan_ray =
    row_by_trying plane_setup (Pupil (tenths 1) (tenths 2) (record { num = zero_decimal; den = 1 }) (record { num = record { mant = negsuc 1; exp = pos 0 }; den = 3 }) (ones 2) (ones 3)) _ refl refl

pub aimed_ray : AimedRay
unfolding opened
aimed_ray =
    row_by_trying plane_setup (Pupil (tenths 1) (record { mant = negsuc 1; exp = negsuc 0 }) (record { num = tenths 5; den = 1 }) (record { num = record { mant = pos 25; exp = negsuc 1 }; den = 1 }) (ones 2) (ones 3)) _ refl refl

pub less_far_image : LessFarImage
unfolding opened
less_far_image = row_by_trying (bounded_by (negsuc 11) (plane_before (record { mant = pos 1; exp = pos 5 }))) axis_ray _ refl refl

pub farther_image : FartherImage
unfolding opened
farther_image = row_by_trying (plane_before (record { mant = pos 1; exp = pos 11 })) axis_ray _ refl refl

pub finest_passes : FinestPasses
unfolding opened
finest_passes = row_by_trying (record plane_setup { width = record { mant = pos 2; exp = negsuc 9 } }) slanted_ray _ refl refl

pub near : NearObject
unfolding opened
near = row_by_trying near_object slanted_ray _ refl refl

pub start_lost : StartLost
unfolding opened
start_lost = row_by_trying plane_setup (Plain (record { mant = pos 1; exp = pos 30 }) zero_decimal zero_decimal zero_decimal) _ refl refl
