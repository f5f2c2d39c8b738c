-- The sample lenses are well formed, by computing.
use Rattle.std.proofs.Common.{ℕ, refl}
use Rattle.std.specs.Prelude.{Some, None}
use Rattle.fixdec.specs.Frac.{whole, ◌*Q◌}
use Rattle.fixdec.specs.Interval.{ends, iv_plus, iv_minus, iv_times, iv_square, iv_over, iv_widen, iv_shift, iv_clip}
use Rattle.fixdec.specs.Scaled.{dec_floor, dec_ceil, dec_span}
use Rattle.lensmodel.specs.Rows.Index.{index_rows}
use Rattle.lensmodel.specs.Setup.WellFormed.{IsWellFormed}
use Rattle.lensmodel.specs.Setup.WholeFaults.{whole_fault}
use Rattle.lensmodel.specs.declared.glass.Medium.TheVariants.{Air}
use Rattle.refract.specs.Decided.{well_formed}
use Rattle.refract.specs.Samples.{back, box, flat, flat_glass, folded, heavy_glass, parabola, second, single, sphere}

-- what is opened to compute
unfoldable opened : ℕ
unfolding whole_fault index_rows ends iv_plus iv_minus iv_times iv_square iv_over iv_widen iv_shift iv_clip dec_floor dec_ceil dec_span whole ◌*Q◌
opened = 0

pub glass_well_formed : IsWellFormed (single sphere Air flat_glass 12 None)
unfolding opened
glass_well_formed = well_formed (single sphere Air flat_glass 12 None) refl refl refl refl refl refl refl

pub boxed_well_formed : IsWellFormed (single sphere Air flat_glass 12 (Some box))
unfolding opened
boxed_well_formed = well_formed (single sphere Air flat_glass 12 (Some box)) refl refl refl refl refl refl refl

pub plane_well_formed : IsWellFormed (single flat Air Air 12 None)
unfolding opened
plane_well_formed = well_formed (single flat Air Air 12 None) refl refl refl refl refl refl refl

pub inside_well_formed : IsWellFormed (single flat flat_glass Air 12 None)
unfolding opened
inside_well_formed = well_formed (single flat flat_glass Air 12 None) refl refl refl refl refl refl refl

pub back_well_formed : IsWellFormed (single back heavy_glass Air 9 None)
unfolding opened
back_well_formed = well_formed (single back heavy_glass Air 9 None) refl refl refl refl refl refl refl

pub mirror_well_formed : IsWellFormed (folded parabola second)
unfolding opened
mirror_well_formed = well_formed (folded parabola second) refl refl refl refl refl refl refl
