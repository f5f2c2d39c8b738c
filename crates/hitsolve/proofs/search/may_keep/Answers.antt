use Rattle.std.proofs.Common.{◌≡◌, true, false, sym, subst, ◌∙◌}
use Rattle.fixdec.specs.Ends.{Ends}
use Rattle.hitsolve.specs.CellValues.{cells_dropped, keeps_in, one_cell}
use Rattle.hitsolve.proofs.search.may_keep.Goals as goal

pub returns-clause-dropped : goal.returns-clause-dropped
returns-clause-dropped c =
    λ e. cells_dropped c.args.k.now c.keeps.ensures.ordered c.args.a c.block.ensures.order c.args.i c.args.n
    (subst (λ (z : Ends). keeps_in c.args.k.now z ≡ false) c.block.ensures.value (sym c.keeps.ensures.value ∙ e))

pub returns-clause-kept : goal.returns-clause-kept
returns-clause-kept c =
    λ e n. one_cell c.args.k.now c.args.a c.args.i c.args.n n (subst (λ (z : Ends). keeps_in c.args.k.now z ≡ true) c.block.ensures.value (sym c.keeps.ensures.value ∙ e))
