use Rattle.std.proofs.Common.{◌≡◌, ◌-◌, length, sym, ap, ◌∙◌, arith}
use Rattle.firstorder.specs.Workings.{worked}
use Rattle.firstorder.proofs.Parts.{height-read, height-end}
use Rattle.lensmodel.specs.Paraxial.FirstOrderRows.{Passing, last_of}
use Rattle.firstorder.proofs.ray.Track.height.Goals as goal

pub returns-then-place-list : goal.returns-then-place-list
returns-then-place-list g c =
    let list = c.as_slice-list.result.now in
    let r = c.index-list-place.result in
    let same = c.as_slice-list.ensures.value ∙ c.self.view_is in
    let read : worked c.here.inside.y ≡ r.y = ap (λ (p : Passing _). p.y) c.here.view_is in
    let at_place = ap (λ (p : Passing _). p.y) c.index-list-place.is in
    rw (← same) (read ∙ at_place ∙ sym (height-read list (c.args.j - 1) r c.if-place-list.true))

pub returns-else-place-list : goal.returns-else-place-list
returns-else-place-list g c =
    let list = c.as_slice-list.result.now in
    let same : list ≡ c.args.self.now = c.as_slice-list.ensures.value ∙ c.self.view_is in
    let last : worked c.last.inside.next ≡ (last_of c.args.self.now).next = ap (λ (p : Passing _). p.next) (c.last.view_is ∙ c.last-last.ensures) in
    let end : c.args.j - 1 ≡ length c.args.self.now = omega (arith, ap length same) in
    rw end (last ∙ sym (height-end c.args.self.now c.requires.some))
