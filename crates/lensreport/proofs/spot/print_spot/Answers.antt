use Rattle.std.proofs.Common.{ap, ◌∙◌}
use Rattle.lensreport.specs.Spots.{spot_text}
use Rattle.lensreport.specs.declared.spot.Spot.{Spot}
use Rattle.lensreport.proofs.Spots.{spot_text-of}
use Rattle.lensreport.proofs.spot.print_spot.Goals as goal

pub returns : goal.returns
returns c rows e = c.print_exactly.ensures ∙ ap (λ (s : Spot). spot_text s) e ∙ spot_text-of rows
