use Rattle.std.proofs.lemmas.Result.{IfErr-weaker}
use Rattle.lensmodel.specs.Files.Records.{each_words}
use Rattle.zmxread.proofs.FileLines.{all-written, finished-file, finished-lens, of_lines-whole}
use Rattle.zmxread.proofs.read.read_lens.Goals as goal

pub finish-requires : goal.finish-requires
finish-requires c = all-written (each_words c.args.text.now) c.read_lines.new.reader c.in_ok-read_lines.ensures.taken

pub returns-clause-file : goal.returns-clause-file
returns-clause-file c =
    let e = c.in_ok-read_lines.ensures in
    let f = c.finish.ensures in
    finished-file (each_words c.args.text.now) c.read_lines.new.reader c.finish.result e.sound e.taken f.lens f.unused f.sound

pub returns-clause-sound : goal.returns-clause-sound
returns-clause-sound c =
    let f = c.finish.ensures in
    finished-lens (each_words c.args.text.now) c.read_lines.new.reader c.finish.result c.in_ok-read_lines.ensures.taken f.lens f.sound

pub returns-clause-fault : goal.returns-clause-fault
returns-clause-fault c =
    let e = c.in_ok-read_lines.ensures in
    IfErr-weaker c.finish.result _ _ (λ f p m. of_lines-whole (each_words c.args.text.now) c.read_lines.new.reader f e.sound e.taken p) c.finish.ensures.fault
