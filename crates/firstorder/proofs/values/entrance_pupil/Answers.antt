use Rattle.std.proofs.Common.{arith}
use Rattle.firstorder.proofs.Counts.{well_count, well_stop}
use Rattle.firstorder.proofs.values.entrance_pupil.Goals as goal

pub height-sa-requires : goal.height-sa-requires
height-sa-requires g c =
    let n = well_count c.args.s.now c.requires.well in
    let stop = well_stop c.args.s.now c.requires.well in
    (omega arith, (omega arith, (omega arith, (omega arith, omega arith))))

pub height-sb-requires : goal.height-sb-requires
height-sb-requires g c =
    let n = well_count c.args.s.now c.requires.well in
    let stop = well_stop c.args.s.now c.requires.well in
    (omega arith, (omega arith, (omega arith, (omega arith, omega arith))))
