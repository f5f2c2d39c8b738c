use Rattle.std.proofs.Common.{refl}
use Rattle.prescript.proofs.Norms.{computed_times}
use Rattle.prescript.proofs.asphere.scaled.Goals as goal

pub returns-clause-value : goal.returns-clause-value
returns-clause-value c =
    let n = c.norm in
    rw (c.shifted.ensures.value, c.written.ensures, computed_times n.result c.args.i (record { sfits = n.type_inv }) n.ensures.low n.ensures.high c.requires.high, n.ensures.value) refl

pub returns-clause-exact : goal.returns-clause-exact
returns-clause-exact c =
    let n = c.norm in
    rw (← c.written.ensures, ← n.ensures.value, ← computed_times n.result c.args.i (record { sfits = n.type_inv }) n.ensures.low n.ensures.high c.requires.high) c.shifted.ensures.exact
