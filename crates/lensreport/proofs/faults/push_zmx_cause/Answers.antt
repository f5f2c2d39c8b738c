use Rattle.std.proofs.Common.{◌++◌, append_assoc}
use Rattle.std.specs.Prelude.{codes}
use Rattle.lensmodel.specs.Texts.FaultText.{at_surface, at_i}
use Rattle.lensreport.proofs.faults.push_zmx_cause.Goals as goal

pub returns-in-Coefficient-clause-bytes : goal.returns-in-Coefficient-clause-bytes
returns-in-Coefficient-clause-bytes c =
    let at = c.in-Coefficient in
    rw (c.push_i.ensures.bytes, c.push_at_surface-in-Coefficient.ensures.bytes, at.is)
    (append_assoc c.args.out.now.bytes (codes "coefficient" ++ at_surface at.surface) (at_i at.i))
