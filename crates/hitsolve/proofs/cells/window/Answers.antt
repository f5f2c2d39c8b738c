use Rattle.std.proofs.Common.{sym, ◌∙◌}
use Rattle.hitsolve.specs.Narrowing.Windows.{ReachesZero, bound_row-reaches}
use Rattle.hitsolve.specs.Values.{if_val}
use Rattle.hitsolve.proofs.cells.window.Goals as goal

pub around-requires : goal.around-requires
around-requires c =
    let h = c.bound.ensures.ordered in
    if_val ReachesZero (sym c.bound.ensures.value ∙ c.in-Val.is)
    (bound_row-reaches c.args.k.now.scale c.args.k.now.face c.args.k.now.zone2 c.args.k.now.e h.zone h.residual)
