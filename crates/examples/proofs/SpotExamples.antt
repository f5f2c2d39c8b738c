-- Statistics of small spots, worked out.
use Rattle.std.proofs.Common.{refl}
use Rattle.fixdec.specs.Interval.{ends, iv_plus, iv_minus, iv_square, iv_clip}
use Rattle.examples.specs.SpotExamples.{GridStatistics, MixedStatistics, FarStatistics}
use Rattle.lensmodel.specs.Rows.Spot.{centroid_rows, spread_rows}

pub grid_statistics : GridStatistics
unfolding spread_rows centroid_rows ends iv_plus iv_minus iv_square iv_clip
grid_statistics = record { centroid = refl; mean_square = refl }

pub mixed_statistics : MixedStatistics
unfolding spread_rows centroid_rows ends iv_plus iv_minus iv_square iv_clip
mixed_statistics = record { centroid = refl; mean_square = refl }

pub far_statistics : FarStatistics
unfolding spread_rows centroid_rows ends iv_plus iv_minus iv_square iv_clip
far_statistics = record { centroid = refl; mean_square = refl }
