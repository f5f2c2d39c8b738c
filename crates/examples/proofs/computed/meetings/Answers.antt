use Rattle.examples.proofs.ComputedRounds.{bent_parts, front_parts, skew_parts, skew_row, steep_rounds}
use Rattle.examples.proofs.computed.meetings.Goals as goal

pub returns-clause-bent : goal.returns-clause-bent
returns-clause-bent c = bent_parts

pub returns-clause-front : goal.returns-clause-front
returns-clause-front c = front_parts

pub returns-clause-skew : goal.returns-clause-skew
returns-clause-skew c = skew_parts

pub returns-clause-skew_row : goal.returns-clause-skew_row
returns-clause-skew_row c = skew_row

pub returns-clause-steep : goal.returns-clause-steep
returns-clause-steep c = steep_rounds
