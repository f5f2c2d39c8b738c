use Rattle.std.proofs.Common.{◌≡◌, ◌∙◌, sym}
use Rattle.dispers.proofs.Sound.{picked-sound}
use Rattle.dispers.proofs.pick.pick.Goals as goal

pub returns-in-Ok-clause-sound : goal.returns-in-Ok-clause-sound
returns-in-Ok-clause-sound c =
    let found = sym c.find.ensures.exact ∙ c.in-Ok.is in
    let same : c.copy.result ≡ c.in-Ok.picked.glass = let v = c.picked.view_is in c.copy.ensures ∙ cc in
    rw same (picked-sound c.args.book.now c.args.name.now.items c.args.wave.now c.in-Ok.picked found)
