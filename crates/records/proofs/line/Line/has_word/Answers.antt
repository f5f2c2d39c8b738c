use Rattle.records.proofs.Asked.{found_below, below_found}
use Rattle.records.proofs.line.Line.has_word.Goals as goal

pub returns : goal.returns
returns c =
    rw (← c.self.view_is, c.is_some.ensures)
    (found_below c.nth_word.result _ c.args.k _ c.nth_word.ensures, below_found c.nth_word.result _ c.args.k _ c.nth_word.ensures)
