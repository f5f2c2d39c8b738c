use Rattle.std.proofs.Common.{ap, sym, ◌∙◌}
use Rattle.std.specs.Prelude.{Option, is_some}
use Rattle.fixdec.specs.Ends.{Ends}
use Rattle.prescript.proofs.Faults.{zoned}
use Rattle.prescript.proofs.asphere.asphere_fault.Goals as goal

pub returns-in-EvenAsph-2 : goal.returns-in-EvenAsph-2
returns-in-EvenAsph-2 c =
    let f = c.args.s.now in
    c.coefficient_fault.ensures
    ∙ sym (zoned f.kind c.args.j f c.in-EvenAsph-2.is (sym (ap (λ (zone : Option Ends). is_some zone) c.zone.ensures.value) ∙ c.if-is_none.ensures {u = tt}))
