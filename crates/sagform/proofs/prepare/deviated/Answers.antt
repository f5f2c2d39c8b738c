use Rattle.sagform.specs.Deviations.{deviation_of}
use Rattle.sagform.proofs.prepare.deviated.Goals as goal

pub symbol-requires-clause-sign : goal.symbol-requires-clause-sign
symbol-requires-clause-sign g c = (deviation_of c.SCALE.result c.args.delta.now c.in-Val-val.field-0 c.requires.sign c.in-Val-val.ensures.value).sign

pub symbol-requires-clause-narrow : goal.symbol-requires-clause-narrow
symbol-requires-clause-narrow g c = (deviation_of c.SCALE.result c.args.delta.now c.in-Val-val.field-0 c.requires.sign c.in-Val-val.ensures.value).narrow
