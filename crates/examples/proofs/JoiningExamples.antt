-- Joining small lenses, worked out.
use Rattle.std.proofs.Common.{refl}
use Rattle.fixdec.specs.Frac.{whole, ◌*Q◌}
use Rattle.fixdec.specs.Interval.{ends, iv_widen}
use Rattle.fixdec.specs.IntervalOperations.{operations}
use Rattle.fixdec.specs.Scaled.{dec_floor, dec_ceil, dec_span}
use Rattle.lensmodel.specs.Files.Joining.{joined}
use Rattle.examples.specs.JoiningExamples.{Wavelengths, Glasses, Tolerances, WideTolerance}

pub wavelengths : Wavelengths
unfolding joined operations ends iv_widen dec_floor dec_ceil dec_span
wavelengths = refl

pub glasses : Glasses
unfolding joined operations ends iv_widen dec_floor dec_ceil dec_span whole ◌*Q◌
glasses = refl

pub tolerances : Tolerances
unfolding joined operations ends iv_widen dec_floor dec_ceil dec_span
tolerances = refl

pub wide_tolerance : WideTolerance
unfolding joined operations ends iv_widen dec_floor dec_ceil dec_span
wide_tolerance = refl
