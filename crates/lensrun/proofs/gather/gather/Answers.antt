use Rattle.std.proofs.Common.{◌≡◌, ℕ, Vec, Global, List, Option, map, subst, sym}
use Rattle.lensmodel.specs.Call.TopCall.{Command}
use Rattle.lensrun.specs.Promise.{IsDueOf}
use Rattle.lensrun.proofs.Answered.{usage_due}
use Rattle.lensrun.proofs.gather.gather.Goals as goal

pub returns-in_default-clause-due : goal.returns-in_default-clause-due
returns-in_default-clause-due g c =
    subst (λ (o : Option Command). IsDueOf (g.F.Shelf.held c.args.shelf.now) o c.usage.result) c.in_default.ensures.exact
    (usage_due (g.F.Shelf.held c.args.shelf.now) c.usage.result c.usage.ensures)
