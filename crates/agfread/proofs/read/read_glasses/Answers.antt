use Rattle.std.proofs.Common.{ap, sym, ◌∙◌}
use Rattle.std.specs.Prelude.{Ok}
use Rattle.std.proofs.lemmas.Result.{IfOk-weaker}
use Rattle.lensmodel.specs.Files.Records.{each_words}
use Rattle.agfread.proofs.Lines.{of_lines-sound}
use Rattle.agfread.proofs.read.read_glasses.Goals as goal

pub returns-clause-book : goal.returns-clause-book
returns-clause-book c =
    let e = c.in_ok-read_lines.ensures in
    let r = c.read_lines.new.reader in
    IfOk-weaker c.finish.result _ _
    (λ b p. of_lines-sound (each_words c.args.text.now) r.current r.book e.sound e.taken.walked ∙ ap Ok (sym p)) c.finish.ensures.book
