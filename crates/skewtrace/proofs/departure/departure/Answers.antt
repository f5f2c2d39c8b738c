use Rattle.std.proofs.Common.{◌-◌, sym, ◌∙◌, arith}
use Rattle.std.specs.Int.{w128}
use Rattle.std.proofs.lemmas.Int.{to_z-of_z}
use Rattle.sagform.specs.ResidualLaws.{covers_residual}
use Rattle.skewtrace.specs.Departures.{stay_rows-encloses, bent-encloses, departure-stays, departure-bends}
use Rattle.skewtrace.proofs.departure.departure.Goals as goal

pub returns-then-equal_media-clause-exact : goal.returns-then-equal_media-clause-exact
returns-then-equal_media-clause-exact g c =
    c.stays.ensures.exact
    ∙ sym (departure-stays g.T.Arith.ops g.T.Arith.SCALE c.args.s.now c.args.j c.args.f.now c.args.r.now c.args.h.now (sym c.equal_media.ensures ∙ c.if-equal_media.true))

pub returns-then-equal_media-clause-encloses : goal.returns-then-equal_media-clause-encloses
returns-then-equal_media-clause-encloses g c =
    rw c.stays.ensures.exact
    (stay_rows-encloses g.T.Arith.SCALE g.T.Arith.ops g.T.Arith.member (g.met.T.Arith.lawful c.requires.scale) c.args.s.now (c.args.j - 1) c.args.f.now c.args.r.now c.args.h.now
    c.stays.ensures.kept (sym c.equal_media.ensures ∙ c.if-equal_media.true))

pub returns-clause-exact : goal.returns-clause-exact
returns-clause-exact g c =
    rw (c.bend.ensures.exact, to_z-of_z w128 c.residual_units.result (record { sfits = c.residual_units.type_inv }), c.residual_units.ensures.value, c.SCALE.ensures)
    (sym (departure-bends g.T.Arith.ops g.T.Arith.SCALE c.args.s.now c.args.j c.args.f.now c.args.r.now c.args.h.now (sym c.equal_media.ensures ∙ c.if-equal_media.false)))

pub returns-clause-encloses : goal.returns-clause-encloses
returns-clause-encloses g c =
    bent-encloses g.T.Arith.SCALE g.T.Arith.ops g.T.Arith.member (g.met.T.Arith.lawful c.requires.scale) c.args.s.now (c.args.j - 1) c.args.f.now c.args.r.now c.args.h.now
    c.bend.result (sym c.equal_media.ensures ∙ c.if-equal_media.false)
    (c.bend.ensures.encloses c.args.s.now (c.args.j - 1) c.requires.well (omega arith)
    (rw (to_z-of_z w128 c.residual_units.result (record { sfits = c.residual_units.type_inv }), c.residual_units.ensures.value, c.SCALE.ensures)
    (covers_residual g.T.Arith.SCALE c.args.s.now.res)))
