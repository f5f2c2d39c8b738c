use Rattle.std.proofs.Common.{map, sym, ap, ◌∙◌, append-nil}
use Rattle.std.specs.Prelude.{Some, option_map}
use Rattle.std.proofs.lemmas.Option.{slice_get-map}
use Rattle.lensrun.specs.Numbered.{unused_line}
use Rattle.lensrun.proofs.lines.TagsLines.print.Goals as goal

pub returns : goal.returns
returns c =
    slice_get-map unused_line c.args.self.now c.args.i ∙ ap (option_map unused_line) c.at-lines.ensures
    ∙ ap Some (sym (c.print_unused.ensures ∙ append-nil (unused_line (c.at-lines.result.0.now.items, c.at-lines.result.1))))
