use Rattle.examples.proofs.ExactChains.{first_chain, first_held, sums_meet, sums_held}
use Rattle.examples.proofs.definitions.exact_chains.Goals as goal

pub returns-clause-first : goal.returns-clause-first
returns-clause-first c = first_chain

pub returns-clause-first_held : goal.returns-clause-first_held
returns-clause-first_held c = first_held

pub returns-clause-sums : goal.returns-clause-sums
returns-clause-sums c = sums_meet

pub returns-clause-sums_held : goal.returns-clause-sums_held
returns-clause-sums_held c = sums_held
