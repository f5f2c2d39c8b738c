use Rattle.std.proofs.Common.{◌≡◌, ◌+◌, drop, true, refl, sym, ◌∙◌}
use Rattle.std.specs.Prelude.{◌||◌}
use Rattle.lensmodel.specs.Paraxial.FirstOrderRows.{rows_of}
use Rattle.lensmodel.specs.Paraxial.Losses.{some_by_range}
use Rattle.firstorder.proofs.Parts.{some-here}
use Rattle.firstorder.proofs.ray.Track.is_by_range.Goals as goal

pub returns-then-is_by_range_at : goal.returns-then-is_by_range_at
returns-then-is_by_range_at g c =
    let list = c.as_slice-list.result.now in
    let i = c.loop-p.p-index in
    let b = c.is_by_range_at.result in
    let same = c.as_slice-list.ensures.value ∙ c.self.view_is in
    let found : (b || some_by_range (rows_of (drop (i + 1) list))) ≡ true = rw c.if-is_by_range_at.true refl in
    rw (← same) (sym (c.loop-p.invariant ∙ some-here list i c.p-item.result b c.loop-p-test.true c.p-item.is c.is_by_range_at.ensures ∙ found))

pub loop-p-preserved : goal.loop-p-preserved
loop-p-preserved g c =
    let list = c.as_slice-list.result.now in
    let i = c.loop-p.p-index in
    let b = c.is_by_range_at.result in
    let rest = some_by_range (rows_of (drop (i + 1) list)) in
    let next : (b || rest) ≡ rest = rw c.if-is_by_range_at.false refl in
    c.loop-p.invariant ∙ some-here list i c.p-item.result b c.loop-p-test.true c.p-item.is c.is_by_range_at.ensures ∙ next
