use Rattle.std.proofs.Common.{◌∙◌}
use Rattle.firstorder.proofs.Parts.{last-read}
use Rattle.firstorder.proofs.ray.Track.last.Goals as goal

pub returns : goal.returns
returns g c =
    let same = c.as_slice-list.ensures.value ∙ c.self.view_is in
    rw (← same) (c.index-list-list.is ∙ last-read c.as_slice-list.result.now c.index-list-list.result (rw (← same) at c.requires))
