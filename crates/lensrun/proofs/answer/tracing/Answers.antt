use Rattle.lensrun.specs.Asked.{inputs}
use Rattle.lensrun.proofs.Answered.{makes_nothing}
use Rattle.lensrun.proofs.answer.tracing.Goals as goal

pub returns-in_default-clause-none : goal.returns-in_default-clause-none
returns-in_default-clause-none g c = makes_nothing (g.F.Shelf.held c.args.shelf.now) (inputs c.args.names.now)
