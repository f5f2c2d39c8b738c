use Rattle.std.proofs.Common.{◌≡◌, ◌≤◌, length, ap, ◌∙◌, arith}
use Rattle.std.proofs.lemmas.List.{take_all}
use Rattle.fixdec.specs.IntervalOperations.{operations}
use Rattle.firstorder.specs.Workings.{worked}
use Rattle.firstorder.proofs.Parts.{trail-is}
use Rattle.lensmodel.specs.Paraxial.FirstOrderRows.{Passing, last_of}
use Rattle.firstorder.proofs.ray.Track.trail.Goals as goal

pub returns : goal.returns
returns g c =
    let list = c.as_slice-list.result.now in
    let same = c.as_slice-list.ensures.value ∙ c.self.view_is in
    let last = c.last.view_is ∙ c.last-last.ensures in
    let next : worked c.last.inside.next ≡ (last_of c.args.self.now).next = ap (λ (p : Passing _). p.next) last in
    let behind : worked c.last.inside.behind ≡ (last_of c.args.self.now).behind = ap (λ (p : Passing _). p.behind) last in
    let end : length list ≤ c.loop-p.p-index = omega arith in
    rw (c.push-2.ensures.items, c.loop-p.invariant, c.hull_of-2.ensures, c.hull_of-3.ensures, next, behind, take_all c.loop-p.p-index list end, same)
    (trail-is (operations g.row.S).hull c.args.self.now c.requires.some)
