use Rattle.std.proofs.Common.{sym, ap, ◌∙◌}
use Rattle.lensmodel.specs.Files.Records.{is_number}
use Rattle.records.specs.WordLaws.{no_word_at}
use Rattle.zmxread.proofs.NoNumber.{no_number}
use Rattle.zmxread.proofs.surface.has_rim.Goals as goal

pub returns-in-None : goal.returns-in-None
returns-in-None c = sym (ap (is_number 1) (no_word_at 2 c.args.line.now c.in-None.ensures) ∙ no_number 1)
