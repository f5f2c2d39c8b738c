use Rattle.lensreport.proofs.Spots.{centroid_steps}
use Rattle.lensreport.proofs.spot.push_centroid.Goals as goal

pub returns-clause-bytes : goal.returns-clause-bytes
returns-clause-bytes c =
    centroid_steps c.args.x c.args.y _ _ _ _ c.push_str.ensures.bytes c.push_named_span.ensures.bytes c.push_named_span-2.ensures.bytes
