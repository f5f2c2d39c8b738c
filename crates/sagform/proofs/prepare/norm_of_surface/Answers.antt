use Rattle.std.proofs.Common.{refl}
use Rattle.std.specs.Int.{w32}
use Rattle.std.proofs.lemmas.Int.{to_z-of_z}
use Rattle.lensmodel.specs.Setup.Values.{surface_at}
use Rattle.sagform.specs.Zoned.{norm_is}
use Rattle.sagform.proofs.prepare.norm_of_surface.Goals as goal

pub returns-clause-value : goal.returns-clause-value
returns-clause-value c =
    let f = surface_at c.args.s.now c.args.j in
    rw (to_z-of_z w32 c.norm.result (record { sfits = c.norm.type_inv }), c.norm.ensures.value, c.zone.ensures.value, c.surface.ensures, norm_is f.kind f.semi c.requires.zoned) refl
