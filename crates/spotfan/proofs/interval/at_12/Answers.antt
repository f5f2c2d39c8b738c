use Rattle.std.proofs.Common.{arith, ◌∙◌}
use Rattle.std.proofs.lemmas.Int.{ints}
use Rattle.spotfan.proofs.Shifts.{at_12-is}
use Rattle.spotfan.proofs.interval.at_12.Goals as goal

pub returns : goal.returns
returns c = c.iv_shift.ensures.exact ∙ at_12-is c.args.scale c.args.a _ c.requires.low (omega (arith, ints))
