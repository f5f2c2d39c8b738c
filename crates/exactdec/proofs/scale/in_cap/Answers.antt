use Rattle.std.proofs.Common.{sym}
use Rattle.std.proofs.lemmas.Int.{to_z-of_z}
use Rattle.exactdec.proofs.Spans.{ends_val, ends_lost_lo, ends_lost_hi}
use Rattle.exactdec.proofs.scale.in_cap.Goals as goal
use Rattle.exactdec.proofs.scale.in_cap.Goals.{else-is_in_cap-via-then-is_in_cap+else-is_in_cap-2, else-is_in_cap-via-else-is_in_cap}

pub returns-then-is_in_cap-2 : goal.returns-then-is_in_cap-2
returns-then-is_in_cap-2 c =
    let low = c.ranges.lo in
    let high = c.ranges.hi in
    let lo_fits = c.if-is_in_cap.ensures in
    let hi_fits = c.if-is_in_cap-2.ensures in
    simp to_z-of_z (sym (ends_val c.args.lo c.args.hi (sym (simp to_z-of_z at lo_fits)) (sym (simp to_z-of_z at hi_fits))))

pub returns-else-is_in_cap : goal.returns-else-is_in_cap
returns-else-is_in_cap c =
    let low = c.ranges.lo in
    let high = c.ranges.hi in
    elim c.else-is_in_cap.branch [
      | else-is_in_cap-via-then-is_in_cap+else-is_in_cap-2 w ↦
          let lo_fits = w.if-is_in_cap.ensures in
          let hi_past = w.if-is_in_cap-2.ensures in
          sym (ends_lost_hi c.args.lo c.args.hi (sym (simp to_z-of_z at lo_fits)) (sym (simp to_z-of_z at hi_past)))
      | else-is_in_cap-via-else-is_in_cap w ↦ let lo_past = w.if-is_in_cap.ensures in sym (ends_lost_lo c.args.lo c.args.hi (sym (simp to_z-of_z at lo_past)))
    ]
