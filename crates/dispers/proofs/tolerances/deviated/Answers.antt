use Rattle.std.proofs.Common.{lit<, lit≤}
use Rattle.sagform.specs.Deviations.{deviation_of}
use Rattle.dispers.proofs.tolerances.deviated.Goals as goal

pub symbol-requires : goal.symbol-requires
symbol-requires c =
    let d = deviation_of 12 c.args.delta.now c.in-Val-val.field-0 c.requires.sign c.in-Val-val.ensures.value in
    (lit< tt, (lit≤ tt, (c.requires.index, (d.sign, d.narrow))))
