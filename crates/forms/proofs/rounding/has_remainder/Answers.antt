use Rattle.std.proofs.Common.{arith}
use Rattle.forms.proofs.Floors.{floor_multiple}
use Rattle.forms.proofs.Sizes.{fits}
use Rattle.std.proofs.lemmas.Int.{to_z-of_z}
use Rattle.forms.proofs.rounding.has_remainder.Goals as goal

pub overflow_mul-result : goal.overflow_mul-result
overflow_mul-result c =
    let r = c.requires in
    let size = floor_multiple c.args.n c.args.d r.nonzero in
    let q = c.ranges.q in
    let d = c.ranges.d in
    simp to_z-of_z (rw r.quotient (fits _ (omega (arith, r.divisor, r.number))))
