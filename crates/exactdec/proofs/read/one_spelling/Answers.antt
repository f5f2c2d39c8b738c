use Rattle.exactdec.proofs.Grammar.{one_way}
use Rattle.exactdec.proofs.read.one_spelling.Goals as goal

pub returns : goal.returns
returns c = one_way
