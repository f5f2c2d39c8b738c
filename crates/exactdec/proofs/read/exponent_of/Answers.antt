use Rattle.std.proofs.Common.{ℤ, ◌<◌, ◌^◌, length, subst, arith}
use Rattle.fixdec.specs.Word.{number}
use Rattle.exactdec.proofs.Exponents.{IsJudged, judged_capped, size_capped, sum_is}
use Rattle.exactdec.proofs.read.exponent_of.Goals as goal

pub returns : goal.returns
returns c =
    let sign = c.args.parts.now.power_sign.now in
    let n = number c.args.parts.now.power.now in
    let m = c.power_of.result in
    let s = c.signed-power.result in
    let len = length c.args.parts.now.part.now in
    let long : len < 2 ^ 64 = omega arith in
    let size = size_capped sign n m s c.power_of.ensures c.signed-power.ensures in
    judged_capped sign n m s len c.args.zeros c.readable.result c.power_of.ensures c.signed-power.ensures long c.ranges.zeros.fits
    (subst (λ (t : ℤ). IsJudged c.readable.result t) (sum_is s len c.args.zeros size long c.ranges.zeros.fits) c.readable.ensures)
