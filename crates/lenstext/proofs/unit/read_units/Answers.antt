use Rattle.std.proofs.Common.{◌<◌, ℕ, List, length, subst, arith}
use Rattle.lenstext.proofs.Units.{units_fit, on_ok_by}
use Rattle.lenstext.proofs.unit.read_units.Goals as goal

pub returns-clause-few : goal.returns-clause-few
returns-clause-few c =
    let mark = c.split_mark-wide in
    on_ok_by c.map_err.result
    (subst (λ (us : List ℕ). length us < 4294967296) mark.ensures.units (units_fit mark.result.1 mark.result.0.now (omega arith)))
