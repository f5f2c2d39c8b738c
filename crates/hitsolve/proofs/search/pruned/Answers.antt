use Rattle.std.proofs.Common.{sym, ap, ◌∙◌}
use Rattle.fixdec.specs.Ends.{Ends}
use Rattle.fixdec.specs.declared.step.Step.TheVariants.{Val}
use Rattle.lensmodel.specs.Rows.Cells.{pruned}
use Rattle.hitsolve.specs.CellValues.{hull_is, keeps_in, none_is}
use Rattle.hitsolve.proofs.search.pruned.Goals as goal

pub returns-in-Some : goal.returns-in-Some
unfolding pruned
returns-in-Some c =
    ap (λ (b : Ends). Val b) c.block.ensures.value
    ∙ sym (hull_is (keeps_in c.args.k.now) c.args.a c.block.ensures.order c.in-Some.first c.last_from-last.result c.in-Some.ensures c.last_from-last.ensures)

pub returns-in-None : goal.returns-in-None
unfolding pruned
returns-in-None c = sym (none_is (keeps_in c.args.k.now) c.args.a 64 0 c.in-None.ensures)
