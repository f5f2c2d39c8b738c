-- First-order values and Seidel sums of small lenses, by computing.
use Rattle.std.proofs.Common.{◌≡◌, ℕ, ◌*◌, ◌^◌, ap, subst, refl}
use Rattle.std.specs.Prelude.{pos, negsuc}
use Rattle.examples.specs.DoubletExamples.{DoubletFirst, StopAtObject, StopAtImage, ManginFirst, BlockedFirst, HighRays, DoubletSums, HighSums, ManginSums, doublet, mangin, blocked}
use Rattle.examples.specs.ParaxialExamples.{PlaneInAir, GlassSphere, MirrorFocus, SphereSums, ParaboloidSums}
use Rattle.examples.specs.SmallLenses.{whole_dec, tenths}
use Rattle.examples.specs.ComputedFolds.{decimal}
use Rattle.examples.specs.Worked.{plane_setup, sphere_setup, mirror_setup}
use Rattle.examples.proofs.TriedRoots.{operations_by, tried_root, same_operations}
use Rattle.fixdec.specs.Decimal.{Decimal}
use Rattle.fixdec.specs.Interval.{ends, iv_plus, iv_minus, iv_times, iv_square, iv_over, iv_widen}
use Rattle.fixdec.specs.IntervalOperations.{operations}
use Rattle.fixdec.specs.Scaled.{dec_floor, dec_ceil, dec_span}
use Rattle.lensmodel.specs.Paraxial.FirstOrderRows.{ray_rows, first_attempt, first_order}
use Rattle.lensmodel.specs.Paraxial.Losses.{chosen}
use Rattle.lensmodel.specs.Paraxial.SeidelRows.{sums_attempt, seidel_sums}
use Rattle.lensmodel.specs.Rows.Constants.{residual_units}
use Rattle.lensmodel.specs.Rows.Index.{index_rows}
use Rattle.lensmodel.specs.Setup.Values.{zero_decimal}
use Rattle.lensmodel.specs.declared.paraxial.FirstOut.{FirstOut}
use Rattle.lensmodel.specs.declared.paraxial.SeidelOut.{SeidelOut}
use Rattle.lensmodel.specs.declared.setup.Setup.{Setup}

-- first-order values may be computed with roots that are tried
first_by_trying : (s : Setup) (y u : Decimal) (x : FirstOut)
    → chosen (λ scale. first_attempt (operations_by tried_root scale) scale s (residual_units scale s.res) y u) ≡ x → first_order s y u ≡ x
unfolding first_order
first_by_trying s y u x h = subst (λ o. chosen (λ scale. first_attempt (o scale) scale s (residual_units scale s.res) y u) ≡ x) same_operations h

-- and so may sums
sums_by_trying : (s : Setup) (y u yb ub : Decimal) (x : SeidelOut)
    → chosen (λ scale. sums_attempt (operations_by tried_root scale) scale s (residual_units scale s.res) y u yb ub) ≡ x → seidel_sums s y u yb ub ≡ x
unfolding seidel_sums
sums_by_trying s y u yb ub x h =
    subst (λ o. chosen (λ scale. sums_attempt (o scale) scale s (residual_units scale s.res) y u yb ub) ≡ x) same_operations h

-- what is opened to compute them
unfoldable opened_rows : ℕ
unfolding first_attempt sums_attempt ray_rows ends iv_plus iv_minus iv_times iv_square iv_over iv_widen dec_floor dec_ceil dec_span index_rows
opened_rows = 0

pub plane_in_air : PlaneInAir
unfolding opened_rows
plane_in_air = first_by_trying plane_setup (whole_dec (pos 1)) zero_decimal _ refl

pub glass_sphere : GlassSphere
unfolding opened_rows
glass_sphere = first_by_trying sphere_setup (whole_dec (pos 1)) zero_decimal _ refl

pub mirror_focus : MirrorFocus
unfolding opened_rows
mirror_focus = first_by_trying mirror_setup (whole_dec (pos 1)) zero_decimal _ refl

pub doublet_first : DoubletFirst
unfolding opened_rows
doublet_first = first_by_trying (doublet 2) (whole_dec (pos 2)) (tenths (pos 1)) _ refl

pub stop_at_image : StopAtImage
unfolding opened_rows
stop_at_image = first_by_trying (doublet 3) (whole_dec (pos 2000)) (tenths (pos 1)) _ refl

pub mangin_first : ManginFirst
unfolding opened_rows
mangin_first = first_by_trying mangin (whole_dec (pos 2)) (tenths (pos 1)) _ refl

pub stop_at_object : StopAtObject
unfolding opened_rows
stop_at_object = ap (λ out. out.enp) (first_by_trying (doublet 0) (whole_dec (pos 2)) (tenths (pos 1)) _ refl)

pub blocked_first : BlockedFirst
unfolding opened_rows
blocked_first = ap (λ out. out.efl) (first_by_trying blocked (whole_dec (pos 1)) zero_decimal _ refl)

pub high_rays : HighRays
unfolding opened_rows
high_rays = record {
  at_ninth = ap (λ out. out.scale) (first_by_trying (doublet 2) (decimal (pos (2 * 10 ^ 6)) 0) zero_decimal _ refl);
  at_sixth = ap (λ out. out.scale) (first_by_trying (doublet 2) (decimal (pos (2 * 10 ^ 9)) 0) zero_decimal _ refl);
  at_none = ap (λ out. out.scale) (first_by_trying blocked (whole_dec (pos 1)) zero_decimal _ refl);
}

pub sphere_sums : SphereSums
unfolding opened_rows
sphere_sums = sums_by_trying sphere_setup (whole_dec (pos 1)) zero_decimal zero_decimal (tenths (pos 1)) _ refl

pub paraboloid_sums : ParaboloidSums
unfolding opened_rows
paraboloid_sums = sums_by_trying mirror_setup (whole_dec (pos 1)) zero_decimal zero_decimal (tenths (pos 1)) _ refl

pub doublet_sums : DoubletSums
unfolding opened_rows
doublet_sums = sums_by_trying (doublet 2) (whole_dec (pos 1)) (tenths (pos 1)) (tenths (pos 5)) (tenths (negsuc 1)) _ refl

pub high_sums : HighSums
unfolding opened_rows
high_sums = sums_by_trying (doublet 2) (whole_dec (pos 20)) zero_decimal (whole_dec (pos 1)) (tenths (pos 1)) _ refl

pub mangin_sums : ManginSums
unfolding opened_rows
mangin_sums = sums_by_trying mangin (whole_dec (pos 1)) (tenths (pos 1)) (tenths (pos 5)) (tenths (negsuc 1)) _ refl
