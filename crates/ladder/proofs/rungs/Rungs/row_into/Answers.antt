use Rattle.std.proofs.Common.{sym, ◌∙◌}
use Rattle.ladder.specs.Climbs.{ends_at_nine, ends_at_six, ends_at_twelve, last_is_fifteen, last_is_twelve, last_is_nine, last_is_six, last_is_lost, row_is}
use Rattle.ladder.proofs.rungs.Rungs.row_into.Goals as goal

pub returns-then-is_definite-clause-exact : goal.returns-then-is_definite-clause-exact
returns-then-is_definite-clause-exact g c =
    let s = c.args.s.now in
    let q = c.args.q.now in
    ends_at_six _ _ _ _
    _ (row_is g.A.Arith.ops g.A.Arith.SCALE s q c.trace_into.new.row c.trace_into.ensures.scale c.trace_into.ensures.word c.trace_into.ensures.places) (sym c.is_definite.ensures ∙ c.if-is_definite.true)

pub returns-then-is_definite-2-clause-exact : goal.returns-then-is_definite-2-clause-exact
returns-then-is_definite-2-clause-exact g c =
    let s = c.args.s.now in
    let q = c.args.q.now in
    ends_at_nine _ _ _ _
    _ (row_is g.A.Arith.ops g.A.Arith.SCALE s q c.trace_into.new.row c.trace_into.ensures.scale c.trace_into.ensures.word c.trace_into.ensures.places) (sym c.is_definite.ensures ∙ c.if-is_definite.false)
    _ (row_is g.B.Arith.ops g.B.Arith.SCALE s q c.trace_into-2.new.row c.trace_into-2.ensures.scale c.trace_into-2.ensures.word c.trace_into-2.ensures.places) (sym c.is_definite-2.ensures ∙ c.if-is_definite-2.true)

pub returns-then-is_definite-3-clause-exact : goal.returns-then-is_definite-3-clause-exact
returns-then-is_definite-3-clause-exact g c =
    let s = c.args.s.now in
    let q = c.args.q.now in
    ends_at_twelve _ _ _ _
    _ (row_is g.A.Arith.ops g.A.Arith.SCALE s q c.trace_into.new.row c.trace_into.ensures.scale c.trace_into.ensures.word c.trace_into.ensures.places) (sym c.is_definite.ensures ∙ c.if-is_definite.false)
    _ (row_is g.B.Arith.ops g.B.Arith.SCALE s q c.trace_into-2.new.row c.trace_into-2.ensures.scale c.trace_into-2.ensures.word c.trace_into-2.ensures.places) (sym c.is_definite-2.ensures ∙ c.if-is_definite-2.false)
    _ (row_is g.C.Arith.ops g.C.Arith.SCALE s q c.trace_into-3.new.row c.trace_into-3.ensures.scale c.trace_into-3.ensures.word c.trace_into-3.ensures.places) (sym c.is_definite-3.ensures ∙ c.if-is_definite-3.true)

pub returns-then-not-is_lost-clause-exact : goal.returns-then-not-is_lost-clause-exact
returns-then-not-is_lost-clause-exact g c =
    let s = c.args.s.now in
    let q = c.args.q.now in
    last_is_fifteen _ _ _ _
    _ (row_is g.A.Arith.ops g.A.Arith.SCALE s q c.trace_into.new.row c.trace_into.ensures.scale c.trace_into.ensures.word c.trace_into.ensures.places) (sym c.is_definite.ensures ∙ c.if-is_definite.false)
    _ (row_is g.B.Arith.ops g.B.Arith.SCALE s q c.trace_into-2.new.row c.trace_into-2.ensures.scale c.trace_into-2.ensures.word c.trace_into-2.ensures.places) (sym c.is_definite-2.ensures ∙ c.if-is_definite-2.false)
    _ (row_is g.C.Arith.ops g.C.Arith.SCALE s q c.trace_into-3.new.row c.trace_into-3.ensures.scale c.trace_into-3.ensures.word c.trace_into-3.ensures.places) (sym c.is_definite-3.ensures ∙ c.if-is_definite-3.false)
    _ (row_is g.D.Arith.ops g.D.Arith.SCALE s q c.trace_into-4.new.row c.trace_into-4.ensures.scale c.trace_into-4.ensures.word c.trace_into-4.ensures.places) (sym c.is_lost.ensures ∙ c.if-not-is_lost.true)

pub returns-then-not-lost_at_twelve-clause-exact : goal.returns-then-not-lost_at_twelve-clause-exact
returns-then-not-lost_at_twelve-clause-exact g c =
    let s = c.args.s.now in
    let q = c.args.q.now in
    last_is_twelve _ _ _ _
    _ (row_is g.A.Arith.ops g.A.Arith.SCALE s q c.trace_into.new.row c.trace_into.ensures.scale c.trace_into.ensures.word c.trace_into.ensures.places) (sym c.is_definite.ensures ∙ c.if-is_definite.false)
    _ (row_is g.B.Arith.ops g.B.Arith.SCALE s q c.trace_into-2.new.row c.trace_into-2.ensures.scale c.trace_into-2.ensures.word c.trace_into-2.ensures.places) (sym c.is_definite-2.ensures ∙ c.if-is_definite-2.false)
    _ (row_is g.C.Arith.ops g.C.Arith.SCALE s q c.trace_into-3.new.row c.trace_into-3.ensures.scale c.trace_into-3.ensures.word c.trace_into-3.ensures.places) (sym c.is_definite-3.ensures ∙ c.if-is_definite-3.false)
    _ (row_is g.D.Arith.ops g.D.Arith.SCALE s q c.trace_into-4.new.row c.trace_into-4.ensures.scale c.trace_into-4.ensures.word c.trace_into-4.ensures.places) (sym c.is_lost.ensures ∙ c.if-not-is_lost.false)
    (sym c.is_lost-lost_at_twelve.ensures ∙ c.if-not-lost_at_twelve.true)
    _ (row_is g.C.Arith.ops g.C.Arith.SCALE s q c.trace_into-then-not-lost_at_twelve.new.row c.trace_into-then-not-lost_at_twelve.ensures.scale c.trace_into-then-not-lost_at_twelve.ensures.word c.trace_into-then-not-lost_at_twelve.ensures.places)

pub returns-then-not-lost_at_nine-clause-exact : goal.returns-then-not-lost_at_nine-clause-exact
returns-then-not-lost_at_nine-clause-exact g c =
    let s = c.args.s.now in
    let q = c.args.q.now in
    last_is_nine _ _ _ _
    _ (row_is g.A.Arith.ops g.A.Arith.SCALE s q c.trace_into.new.row c.trace_into.ensures.scale c.trace_into.ensures.word c.trace_into.ensures.places) (sym c.is_definite.ensures ∙ c.if-is_definite.false)
    _ (row_is g.B.Arith.ops g.B.Arith.SCALE s q c.trace_into-2.new.row c.trace_into-2.ensures.scale c.trace_into-2.ensures.word c.trace_into-2.ensures.places) (sym c.is_definite-2.ensures ∙ c.if-is_definite-2.false)
    _ (row_is g.C.Arith.ops g.C.Arith.SCALE s q c.trace_into-3.new.row c.trace_into-3.ensures.scale c.trace_into-3.ensures.word c.trace_into-3.ensures.places) (sym c.is_definite-3.ensures ∙ c.if-is_definite-3.false)
    _ (row_is g.D.Arith.ops g.D.Arith.SCALE s q c.trace_into-4.new.row c.trace_into-4.ensures.scale c.trace_into-4.ensures.word c.trace_into-4.ensures.places) (sym c.is_lost.ensures ∙ c.if-not-is_lost.false)
    (sym c.is_lost-lost_at_twelve.ensures ∙ c.if-not-lost_at_twelve.false)
    (sym c.is_lost-lost_at_nine.ensures ∙ c.if-not-lost_at_nine.true)
    _ (row_is g.B.Arith.ops g.B.Arith.SCALE s q c.trace_into-then-not-lost_at_nine.new.row c.trace_into-then-not-lost_at_nine.ensures.scale c.trace_into-then-not-lost_at_nine.ensures.word c.trace_into-then-not-lost_at_nine.ensures.places)

pub returns-then-not-lost_at_six-clause-exact : goal.returns-then-not-lost_at_six-clause-exact
returns-then-not-lost_at_six-clause-exact g c =
    let s = c.args.s.now in
    let q = c.args.q.now in
    last_is_six _ _ _ _
    _ (row_is g.A.Arith.ops g.A.Arith.SCALE s q c.trace_into.new.row c.trace_into.ensures.scale c.trace_into.ensures.word c.trace_into.ensures.places) (sym c.is_definite.ensures ∙ c.if-is_definite.false)
    _ (row_is g.B.Arith.ops g.B.Arith.SCALE s q c.trace_into-2.new.row c.trace_into-2.ensures.scale c.trace_into-2.ensures.word c.trace_into-2.ensures.places) (sym c.is_definite-2.ensures ∙ c.if-is_definite-2.false)
    _ (row_is g.C.Arith.ops g.C.Arith.SCALE s q c.trace_into-3.new.row c.trace_into-3.ensures.scale c.trace_into-3.ensures.word c.trace_into-3.ensures.places) (sym c.is_definite-3.ensures ∙ c.if-is_definite-3.false)
    _ (row_is g.D.Arith.ops g.D.Arith.SCALE s q c.trace_into-4.new.row c.trace_into-4.ensures.scale c.trace_into-4.ensures.word c.trace_into-4.ensures.places) (sym c.is_lost.ensures ∙ c.if-not-is_lost.false)
    (sym c.is_lost-lost_at_twelve.ensures ∙ c.if-not-lost_at_twelve.false)
    (sym c.is_lost-lost_at_nine.ensures ∙ c.if-not-lost_at_nine.false)
    (sym c.is_lost-lost_at_six.ensures ∙ c.if-not-lost_at_six.true)
    _ (row_is g.A.Arith.ops g.A.Arith.SCALE s q c.trace_into-then-not-lost_at_six.new.row c.trace_into-then-not-lost_at_six.ensures.scale c.trace_into-then-not-lost_at_six.ensures.word c.trace_into-then-not-lost_at_six.ensures.places)

pub returns-clause-exact : goal.returns-clause-exact
returns-clause-exact g c =
    let s = c.args.s.now in
    let q = c.args.q.now in
    last_is_lost _ _ _ _
    _ (row_is g.A.Arith.ops g.A.Arith.SCALE s q c.trace_into.new.row c.trace_into.ensures.scale c.trace_into.ensures.word c.trace_into.ensures.places) (sym c.is_definite.ensures ∙ c.if-is_definite.false)
    _ (row_is g.B.Arith.ops g.B.Arith.SCALE s q c.trace_into-2.new.row c.trace_into-2.ensures.scale c.trace_into-2.ensures.word c.trace_into-2.ensures.places) (sym c.is_definite-2.ensures ∙ c.if-is_definite-2.false)
    _ (row_is g.C.Arith.ops g.C.Arith.SCALE s q c.trace_into-3.new.row c.trace_into-3.ensures.scale c.trace_into-3.ensures.word c.trace_into-3.ensures.places) (sym c.is_definite-3.ensures ∙ c.if-is_definite-3.false)
    _ (row_is g.D.Arith.ops g.D.Arith.SCALE s q c.trace_into-4.new.row c.trace_into-4.ensures.scale c.trace_into-4.ensures.word c.trace_into-4.ensures.places) (sym c.is_lost.ensures ∙ c.if-not-is_lost.false)
    (sym c.is_lost-lost_at_twelve.ensures ∙ c.if-not-lost_at_twelve.false)
    (sym c.is_lost-lost_at_nine.ensures ∙ c.if-not-lost_at_nine.false)
    (sym c.is_lost-lost_at_six.ensures ∙ c.if-not-lost_at_six.false)
