use Rattle.std.proofs.Common.{refl}
use Rattle.lensmodel.specs.Setup.Values.{surface_at}
use Rattle.sagform.specs.PreparedValues.{zone_kept}
use Rattle.sagform.specs.Zoned.{zone_is}
use Rattle.sagform.proofs.prepare.zone2.Goals as goal

pub returns-clause-exact : goal.returns-clause-exact
returns-clause-exact g c =
    let f = surface_at c.args.s.now c.args.j in
    rw (c.square.ensures, c.decimal_of.ensures, c.zone.ensures.value, c.surface.ensures, zone_is f.kind f.semi c.requires.zoned) refl

pub returns-clause-kept : goal.returns-clause-kept
returns-clause-kept g c =
    let f = surface_at c.args.s.now c.args.j in
    rw (c.square.ensures, c.decimal_of.ensures, c.zone.ensures.value, c.surface.ensures, zone_is f.kind f.semi c.requires.zoned)
    (zone_kept g.T.Arith.SCALE g.T.Arith.ops g.T.Arith.member (g.met.T.Arith.lawful c.requires.scale) f.kind f.semi c.requires.zoned)
