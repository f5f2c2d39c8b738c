use Rattle.exactdec.proofs.Mantissas.{kept_of_none}
use Rattle.exactdec.proofs.mantissa.Mantissa.of.Goals as goal

pub returns : goal.returns
returns c = c.with_all-2.ensures.holds c.args.whole.now (c.with_all.ensures.holds _ kept_of_none)
