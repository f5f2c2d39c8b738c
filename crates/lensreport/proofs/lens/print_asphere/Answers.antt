use Rattle.lensreport.proofs.Aspheres.{asphere_steps}
use Rattle.lensreport.proofs.lens.print_asphere.Goals as goal

pub returns-in-EvenAsph : goal.returns-in-EvenAsph
returns-in-EvenAsph c =
    asphere_steps c.args.s.now.kind c.args.j c.args.s.now _ _ _ _ _ _ _ _ _ _ c.in-EvenAsph.is c.requires
    c.push_coefficient.ensures.bytes
    c.push_coefficient-in-EvenAsph.ensures.bytes
    c.push_coefficient-in-EvenAsph-2.ensures.bytes
    c.push_coefficient-in-EvenAsph-3.ensures.bytes
    c.push_coefficient-in-EvenAsph-4.ensures.bytes
    c.push_coefficient-in-EvenAsph-5.ensures.bytes
    c.push_coefficient-in-EvenAsph-6.ensures.bytes
    c.push_coefficient-in-EvenAsph-7.ensures.bytes
    c.push_zone.ensures
