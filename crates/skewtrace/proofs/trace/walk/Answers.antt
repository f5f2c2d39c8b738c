use Rattle.std.proofs.Common.{arith}
use Rattle.skewtrace.specs.Goings.{reaches_image}
use Rattle.skewtrace.proofs.Counts.{behind_image}
use Rattle.skewtrace.proofs.trace.walk.Goals as goal

pub returns-clause-word : goal.returns-clause-word
returns-clause-word g c =
    let last = behind_image c.args.s.now c.loop-j.j c.len-j-end.result c.requires.well c.len-j-end.ensures.value c.loop-j.auto.j-end c.loop-j-test.false in
    rw (reaches_image g.T.Arith.ops g.T.Arith.SCALE g.T.Arith.member c.args.s.now c.args.start c.loop-j.row.word c.loop-j.row.places.items c.loop-j.j c.loop-j.ray last
    c.loop-j.invariant.0).0
    c.end_at_image.ensures.word

pub returns-clause-places : goal.returns-clause-places
returns-clause-places g c =
    let last = behind_image c.args.s.now c.loop-j.j c.len-j-end.result c.requires.well c.len-j-end.ensures.value c.loop-j.auto.j-end c.loop-j-test.false in
    rw (reaches_image g.T.Arith.ops g.T.Arith.SCALE g.T.Arith.member c.args.s.now c.args.start c.loop-j.row.word c.loop-j.row.places.items c.loop-j.j c.loop-j.ray last
    c.loop-j.invariant.0).0
    c.end_at_image.ensures.places

pub returns-clause-sure : goal.returns-clause-sure
returns-clause-sure g c =
    let last = behind_image c.args.s.now c.loop-j.j c.len-j-end.result c.requires.well c.len-j-end.ensures.value c.loop-j.auto.j-end c.loop-j-test.false in
    (reaches_image g.T.Arith.ops g.T.Arith.SCALE g.T.Arith.member c.args.s.now c.args.start c.loop-j.row.word c.loop-j.row.places.items c.loop-j.j c.loop-j.ray last
    c.loop-j.invariant.0).1

pub returns-clause-ticks : goal.returns-clause-ticks
returns-clause-ticks g c =
    let last = behind_image c.args.s.now c.loop-j.j c.len-j-end.result c.requires.well c.len-j-end.ensures.value c.loop-j.auto.j-end c.loop-j-test.false in
    let t = c.loop-j.invariant.1 in
    omega (arith, last)
