use Rattle.std.proofs.Common.{◌<◌, length, subst, sym}
use Rattle.lensmodel.specs.Files.Records.{Words}
use Rattle.records.proofs.Asked.{below_found}
use Rattle.records.proofs.line.Line.known_word.Goals as goal

pub unwrap-requires : goal.unwrap-requires
unwrap-requires c =
    below_found c.nth_word.result _ c.args.k _ c.nth_word.ensures
    (subst (λ (ws : Words). c.args.k < length ws) (sym c.self.view_is) c.requires)
