-- Rows of which one interval is too wide at scale 6, by computing.
use Rattle.std.proofs.Common.{refl}
use Rattle.examples.specs.ComputedRows.{ones, tenths, ray_sloped}
use Rattle.examples.specs.ComputedWidths.{WidePath, WideX, WideY, WideZ, WideL, WideM, WideN, thin, single, sphere_of, bounded}
use Rattle.examples.specs.Worked.{flat_glass, axis_ray, level_ray}
use Rattle.lensmodel.specs.Setup.Values.{zero_decimal, plane}
use Rattle.lensmodel.specs.declared.glass.Medium.TheVariants.{Air, Of}
use Rattle.lensmodel.specs.declared.launch.Launch.TheVariants.{Plain}
use Rattle.examples.proofs.ComputedRows.{opened}
use Rattle.examples.proofs.TriedCells.{row_by_trying}

pub wide_path : WidePath
unfolding opened
wide_path = row_by_trying (bounded 15 (single plane Air Air)) axis_ray _ refl refl

pub wide_x : WideX
unfolding opened
wide_x = row_by_trying (bounded 15 (single plane thin thin)) (Plain zero_decimal zero_decimal (ones 1) zero_decimal) _ refl refl

pub wide_y : WideY
unfolding opened
wide_y = row_by_trying (bounded 15 (single plane thin thin)) (ray_sloped (ones 1)) _ refl refl

pub wide_z : WideZ
unfolding opened
wide_z = row_by_trying (bounded 100 (single (sphere_of 5) thin thin)) (level_ray (tenths 2)) _ refl refl

pub wide_l : WideL
unfolding opened
wide_l = row_by_trying (bounded 200 (single (sphere_of 2) thin Air)) (Plain (tenths 2) zero_decimal (ones 1) zero_decimal) _ refl refl

pub wide_m : WideM
unfolding opened
wide_m = row_by_trying (bounded 200 (single (sphere_of 2) thin Air)) (Plain zero_decimal (tenths 2) zero_decimal (ones 1)) _ refl refl

pub wide_n : WideN
unfolding opened
wide_n = row_by_trying (bounded 30 (single plane (Of flat_glass) Air)) axis_ray _ refl refl
