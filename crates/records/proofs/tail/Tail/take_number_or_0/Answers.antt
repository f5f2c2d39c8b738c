use Rattle.std.proofs.Common.{◌≡◌, [], ap, sym, ◌∙◌, refl}
use Rattle.std.specs.Prelude.{None}
use Rattle.fixdec.specs.Reading.{decimal_of, split}
use Rattle.lensmodel.specs.Files.Records.{decimal_or_0}
use Rattle.records.specs.WordLaws.{no_word_at}
use Rattle.records.proofs.tail.Tail.take_number_or_0.Goals as goal

no_decimal : decimal_of [] ≡ None
unfolding decimal_of split
no_decimal = refl

pub returns-in-None-clause-number : goal.returns-in-None-clause-number
returns-in-None-clause-number c =
    c.default.ensures
    ∙ sym (ap decimal_or_0 (ap decimal_of (no_word_at 0 c.args.self.now c.in-None.ensures.word) ∙ no_decimal))
