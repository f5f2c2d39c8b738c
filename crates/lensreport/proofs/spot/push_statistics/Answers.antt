use Rattle.std.proofs.Common.{inl, inr, refl}
use Rattle.lensreport.proofs.Spots.{statistics_steps}
use Rattle.lensreport.proofs.spot.push_statistics.Goals as goal

pub returns-in-Val-clause-bytes : goal.returns-in-Val-clause-bytes
returns-in-Val-clause-bytes c =
    statistics_steps c.args.centroid.now c.args.mean_square.now c.in-Val.x c.in-Val.y _ _ _ c.in-Val.is
    c.push_centroid.ensures.bytes
    c.push_mean_square.ensures.bytes

pub returns-in-Empty-clause-bytes : goal.returns-in-Empty-clause-bytes
returns-in-Empty-clause-bytes c =
    elim c.in-Empty.is [
      | inl e ↦ rw (c.push_str.ensures.bytes, e) refl
      | inr w ↦ rw (c.push_str.ensures.bytes, w.1) refl
    ]
