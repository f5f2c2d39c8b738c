use Rattle.std.proofs.Common.{◌-◌, refl, add-one}
use Rattle.skewtrace.specs.Goings.{reaches_first, reaches_next, reaches_end, reaches_image}
use Rattle.skewtrace.proofs.Counts.{behind_image, place_inside, place_at_most}
use Rattle.skewtrace.proofs.Fillings.{count_of, kept_at}
use Rattle.skewtrace.proofs.prepared.walk.Goals.{in-On, in-Image}
use Rattle.skewtrace.proofs.prepared.walk.Goals as goal

pub loop-j-init : goal.loop-j-init
loop-j-init g c = rw (c.empty.ensures.word, c.empty.ensures.places) (reaches_first g.T.Arith.ops g.T.Arith.SCALE g.T.Arith.member c.args.s.now c.args.start)

pub offset_bounds-faces-j : goal.offset_bounds-faces-j
offset_bounds-faces-j g c =
    place_at_most c.args.s.now _ c.loop-j.j c.len-j-end.result _ c.loop-j.invariant.room c.loop-j-test.true c.len-j-end.ensures.value
    (count_of g.T.Arith.ops g.T.Arith.SCALE c.args.s.now c.args.faces.now c.requires.filled)

pub bounds-faces-j : goal.bounds-faces-j
bounds-faces-j g c =
    place_inside c.args.s.now _ c.loop-j.j c.len-j-end.result _ c.loop-j.invariant.room c.loop-j-test.true c.len-j-end.ensures.value
    (count_of g.T.Arith.ops g.T.Arith.SCALE c.args.s.now c.args.faces.now c.requires.filled)

pub pass-requires-clause-ready : goal.pass-requires-clause-ready
pass-requires-clause-ready g c =
    kept_at g.T.Arith.ops g.T.Arith.SCALE c.args.s.now c.args.faces.now (c.loop-j.j - 1) c.index-faces-j.result c.requires.filled
    (place_inside c.args.s.now _ c.loop-j.j c.len-j-end.result _ c.loop-j.invariant.room c.loop-j-test.true c.len-j-end.ensures.value refl)
    c.index-faces-j.is

pub returns-in-Ended-clause-sure : goal.returns-in-Ended-clause-sure
returns-in-Ended-clause-sure g c =
    (reaches_end g.T.Arith.ops g.T.Arith.SCALE g.T.Arith.member c.args.s.now c.args.start c.loop-j.row.word c.loop-j.row.places.items c.loop-j.j c.loop-j.ray c.in-Ended.word
    c.pass.new.row.places.items c.loop-j.invariant c.in-Ended.ensures.on).1

pub loop-j-preserved : goal.loop-j-preserved
loop-j-preserved g c =
    let next = reaches_next g.T.Arith.ops g.T.Arith.SCALE g.T.Arith.member c.args.s.now c.args.start c.loop-j.row.word c.loop-j.row.places.items c.loop-j.j c.loop-j.ray
    c.pass.new.row.word c.pass.new.row.places.items in
    elim c.match-pass.branch [
      | in-On w ↦ rw (w.ray-is, add-one) (next w.in-On.next c.loop-j.invariant w.in-On.ensures.on c.pass.ensures.count)
      | in-Image w ↦ rw (w.ray-is, add-one) (next c.loop-j.ray c.loop-j.invariant w.in-Image.ensures.on c.pass.ensures.count)
    ]

pub returns-clause-word : goal.returns-clause-word
returns-clause-word g c =
    let last = behind_image c.args.s.now c.loop-j.j c.len-j-end.result c.requires.well c.len-j-end.ensures.value c.loop-j.auto.j-end c.loop-j-test.false in
    rw (reaches_image g.T.Arith.ops g.T.Arith.SCALE g.T.Arith.member c.args.s.now c.args.start c.loop-j.row.word c.loop-j.row.places.items c.loop-j.j c.loop-j.ray last
    c.loop-j.invariant).0
    c.end_at_image.ensures.word

pub returns-clause-places : goal.returns-clause-places
returns-clause-places g c =
    let last = behind_image c.args.s.now c.loop-j.j c.len-j-end.result c.requires.well c.len-j-end.ensures.value c.loop-j.auto.j-end c.loop-j-test.false in
    rw (reaches_image g.T.Arith.ops g.T.Arith.SCALE g.T.Arith.member c.args.s.now c.args.start c.loop-j.row.word c.loop-j.row.places.items c.loop-j.j c.loop-j.ray last
    c.loop-j.invariant).0
    c.end_at_image.ensures.places

pub returns-clause-sure : goal.returns-clause-sure
returns-clause-sure g c =
    let last = behind_image c.args.s.now c.loop-j.j c.len-j-end.result c.requires.well c.len-j-end.ensures.value c.loop-j.auto.j-end c.loop-j-test.false in
    (reaches_image g.T.Arith.ops g.T.Arith.SCALE g.T.Arith.member c.args.s.now c.args.start c.loop-j.row.word c.loop-j.row.places.items c.loop-j.j c.loop-j.ray last
    c.loop-j.invariant).1
