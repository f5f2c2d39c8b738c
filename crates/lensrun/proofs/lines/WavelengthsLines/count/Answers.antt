use Rattle.std.proofs.Common.{sym, ◌∙◌}
use Rattle.lensmodel.specs.Texts.Lens.{wave_line}
use Rattle.lensrun.proofs.Lens.{length-numbered}
use Rattle.lensrun.proofs.lines.WavelengthsLines.count.Goals as goal

pub returns : goal.returns
returns c = c.len.ensures.value ∙ sym (length-numbered wave_line 1 c.args.self.now.lens.now.waves.items)
