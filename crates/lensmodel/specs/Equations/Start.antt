-- Where a ray starts: in the vertex plane of surface 1, by its slopes. Cited by chains and by the claims of the start.
use Rattle.std.specs.Prelude.{pos, ◌-◌}
use Rattle.fixdec.specs.Decimal.{value}
use Rattle.fixdec.specs.Frac.{Frac, ◌≈◌, ◌<Q◌, ◌+Q◌, ◌-Q◌, ◌*Q◌, whole}
use Rattle.lensmodel.specs.Equations.Chain.{Chain}
use Rattle.lensmodel.specs.Equations.Residual.{IsWithin}
use Rattle.lensmodel.specs.Setup.Values.{eps}
use Rattle.lensmodel.specs.declared.launch.Launch.{Launch}
use Rattle.lensmodel.specs.declared.launch.Launch.TheVariants.{Plain, Pupil}
use Rattle.lensmodel.specs.Setup.Ratio.{Ratio}
use Rattle.lensmodel.specs.declared.setup.Setup.{Setup}

-- num / den, den being at least 1
abbrev pub ratio : Ratio → Frac
ratio r = value r.num *Q record { num = pos 1; less = r.den - 1 }

-- the slopes of a launch
abbrev pub slope_x : Launch → Frac
slope_x (Plain x y p q) = value p
slope_x (Pupil p q px py z r) = value p

abbrev pub slope_y : Launch → Frac
slope_y (Plain x y p q) = value q
slope_y (Pupil p q px py z r) = value q

-- the heights of a launch; through the pupil plane at z, of radius r: x = r px - p z, y = r py - q z
abbrev pub height_x : Launch → Frac
height_x (Plain x y p q) = value x
height_x (Pupil p q px py z r) = value r *Q ratio px -Q value p *Q value z

abbrev pub height_y : Launch → Frac
height_y (Plain x y p q) = value y
height_y (Pupil p q px py z r) = value r *Q ratio py -Q value q *Q value z

-- the direction cosines are those of the slopes
pub record Starts (s : Setup) (ray : Launch) (c : Chain) : Type 0 where
  pub x : c.x 0 ≈ height_x ray
  pub y : c.y 0 ≈ height_y ray
  pub z : c.z 0 ≈ whole (pos 0)
  pub path : c.path 0 ≈ whole (pos 0)
  pub length : IsWithin (eps s) (c.n 0 *Q c.n 0 *Q (whole (pos 1) +Q slope_x ray *Q slope_x ray +Q slope_y ray *Q slope_y ray)) (whole (pos 1))
  pub direction_x : IsWithin (eps s) (c.l 0) (slope_x ray *Q c.n 0)
  pub direction_y : IsWithin (eps s) (c.m 0) (slope_y ray *Q c.n 0)
  pub forwards : whole (pos 0) <Q c.n 0
