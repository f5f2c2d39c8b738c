-- The sample lenses are well formed, by computing.
use Rattle.std.proofs.Common.{ℕ, refl}
use Rattle.fixdec.specs.Frac.{whole, ◌*Q◌}
use Rattle.fixdec.specs.Interval.{ends, iv_plus, iv_minus, iv_times, iv_square, iv_over, iv_widen, iv_shift, iv_clip}
use Rattle.fixdec.specs.Scaled.{dec_floor, dec_ceil, dec_span}
use Rattle.firstorder.specs.Samples.{alone, back, front, pair}
use Rattle.lensmodel.specs.Rows.Index.{index_rows}
use Rattle.lensmodel.specs.Setup.WellFormed.{IsWellFormed}
use Rattle.lensmodel.specs.Setup.WholeFaults.{whole_fault}
use Rattle.refract.specs.Decided.{well_formed}
use Rattle.refract.specs.Samples.{flat_glass, parabola}

-- what is opened to compute
unfoldable opened : ℕ
unfolding whole_fault index_rows ends iv_plus iv_minus iv_times iv_square iv_over iv_widen iv_shift iv_clip dec_floor dec_ceil dec_span whole ◌*Q◌
opened = 0

pub singlet_well_formed : IsWellFormed (pair front back flat_glass)
unfolding opened
singlet_well_formed = well_formed (pair front back flat_glass) refl refl refl refl refl refl refl

pub mirror_well_formed : IsWellFormed (alone parabola)
unfolding opened
mirror_well_formed = well_formed (alone parabola) refl refl refl refl refl refl refl
