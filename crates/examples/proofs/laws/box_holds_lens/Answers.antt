use Rattle.examples.proofs.Rest.{index_free_keeps, box_holds_lens, lens_at_rest}
use Rattle.examples.proofs.laws.box_holds_lens.Goals as goal

pub returns-clause-keeps : goal.returns-clause-keeps
returns-clause-keeps c = index_free_keeps

pub returns-clause-holds : goal.returns-clause-holds
returns-clause-holds c = box_holds_lens

pub returns-clause-only : goal.returns-clause-only
returns-clause-only c = lens_at_rest
