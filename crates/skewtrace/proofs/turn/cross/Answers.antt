use Rattle.std.proofs.Common.{◌≡◌, ◌-◌}
use Rattle.std.specs.Int.{w128}
use Rattle.std.proofs.lemmas.Int.{to_z-of_z}
use Rattle.fixdec.specs.declared.step.Step.TheVariants.{Val, Empty}
use Rattle.lensmodel.specs.Rows.Hit.{hit_rows}
use Rattle.sagform.specs.ResidualLaws.{covers_residual}
use Rattle.skewtrace.specs.Turns.{units}
use Rattle.skewtrace.proofs.turn.cross.Goals as goal

pub returns-in-Val-clause-sure : goal.returns-in-Val-clause-sure
returns-in-Val-clause-sure g c =
    let scale = g.T.Arith.SCALE in
    let s = c.args.s.now in
    let same : Val c.in-Val.h ≡ hit_rows g.T.Arith.ops scale c.args.f.now c.args.r.now (units g.T.Arith.ops scale s) =
    rw (to_z-of_z w128 c.residual_units.result (record { sfits = c.residual_units.type_inv }), c.residual_units.ensures.value, c.SCALE.ensures) at c.in-Val.ensures.exact in
    rw (← same) (
      c.in-Val.ensures.encloses s c.requires.well (c.args.j - 1)
          (rw (to_z-of_z w128 c.residual_units.result (record { sfits = c.residual_units.type_inv }), c.residual_units.ensures.value, c.SCALE.ensures) (covers_residual scale s.res)),
      c.meet.ensures.sure,
    )

pub returns-in-Empty-clause-sure : goal.returns-in-Empty-clause-sure
returns-in-Empty-clause-sure g c =
    let scale = g.T.Arith.SCALE in
    let s = c.args.s.now in
    let same : Empty ≡ hit_rows g.T.Arith.ops scale c.args.f.now c.args.r.now (units g.T.Arith.ops scale s) =
    rw (to_z-of_z w128 c.residual_units.result (record { sfits = c.residual_units.type_inv }), c.residual_units.ensures.value, c.SCALE.ensures) at c.in-Empty.ensures.exact in
    rw (← same) (
      c.in-Empty.ensures.encloses s c.requires.well (c.args.j - 1)
          (rw (to_z-of_z w128 c.residual_units.result (record { sfits = c.residual_units.type_inv }), c.residual_units.ensures.value, c.SCALE.ensures) (covers_residual scale s.res)),
      tt,
    )
