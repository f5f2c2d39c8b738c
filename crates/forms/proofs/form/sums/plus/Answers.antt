use Rattle.std.proofs.Common.{arith}
use Rattle.forms.proofs.Uses.{use_length}
use Rattle.forms.proofs.form.sums.plus.Goals as goal

pub add-counted-requires-clause-top : goal.add-counted-requires-clause-top
add-counted-requires-clause-top g c =
    let m = c.max.ensures in
    omega (arith, use_length c.a.inside.coefficients, use_length c.b.inside.coefficients)
