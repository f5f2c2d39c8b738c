use Rattle.std.proofs.Common.{arith}
use Rattle.enclose.proofs.Sizes.{as_is, fits, widened_at, unit_is, raised_size}
use Rattle.enclose.proofs.spans.raised.Goals as goal

pub overflow_mul-result : goal.overflow_mul-result
overflow_mul-result c =
    let size = raised_size c.args.z c.args.k c.requires.number c.requires.power in
    rw (widened_at c.args.z c.requires.number c.short.ensures.value, unit_is c.args.k c.requires.power c.pow10.ensures.value) (fits _ (omega arith))

pub returns-clause-value : goal.returns-clause-value
returns-clause-value c =
    let size = raised_size c.args.z c.args.k c.requires.number c.requires.power in
    rw (widened_at c.args.z c.requires.number c.short.ensures.value, unit_is c.args.k c.requires.power c.pow10.ensures.value) (as_is _ (omega arith))

pub returns-clause-bound : goal.returns-clause-bound
returns-clause-bound c = rw (returns-clause-value c) (raised_size c.args.z c.args.k c.requires.number c.requires.power)
