use Rattle.examples.proofs.JoiningExamples.{wavelengths, glasses, tolerances, wide_tolerance}
use Rattle.examples.proofs.definitions.joined_setups.Goals as goal

pub returns-clause-wavelengths : goal.returns-clause-wavelengths
returns-clause-wavelengths c = wavelengths

pub returns-clause-glasses : goal.returns-clause-glasses
returns-clause-glasses c = glasses

pub returns-clause-tolerances : goal.returns-clause-tolerances
returns-clause-tolerances c = tolerances

pub returns-clause-wide : goal.returns-clause-wide
returns-clause-wide c = wide_tolerance
