use Rattle.std.proofs.Common.{refl}
use Rattle.lensmodel.specs.Setup.Values.{surface_at}
use Rattle.sagform.specs.Zoned.{norm_is}
use Rattle.sagform.proofs.prepare.terms.Goals as goal

pub returns : goal.returns
returns g c =
    let f = surface_at c.args.s.now c.args.j in
    rw (c.coefficients.ensures, c.zone.ensures.value, c.surface-f.ensures, norm_is f.kind f.semi c.requires.zoned) refl
