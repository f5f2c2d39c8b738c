use Rattle.std.proofs.Common.{arith}
use Rattle.std.specs.Int.{w128}
use Rattle.std.proofs.lemmas.Int.{ints, to_z-of_z}
use Rattle.forms.proofs.Sizes.{power_size}
use Rattle.forms.proofs.form.rounded.unit.Goals as goal

pub overflow_cast-result : goal.overflow_cast-result
overflow_cast-result c =
    let most = power_size c.args.scale c.requires in
    rw (to_z-of_z w128 c.pow10.result (record { sfits = c.pow10.type_inv }), c.pow10.ensures.value) (record { sfits = omega arith })

pub returns-clause-value : goal.returns-clause-value
returns-clause-value c = let most = power_size c.args.scale c.requires in let e = c.pow10.ensures.value in omega (arith, ints)

pub returns-clause-positive : goal.returns-clause-positive
returns-clause-positive c = let most = power_size c.args.scale c.requires in let p = c.pow10.ensures.lower_bound in rw (returns-clause-value c, ← c.pow10.ensures.value) p

pub returns-clause-bound : goal.returns-clause-bound
returns-clause-bound c = let most = power_size c.args.scale c.requires in rw (returns-clause-value c) (omega (arith, ints))
