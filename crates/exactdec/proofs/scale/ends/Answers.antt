use Rattle.std.proofs.Common.{◌≡◌, sym, ◌∙◌}
use Rattle.std.proofs.lemmas.Int.{to_z-of_z}
use Rattle.std.specs.Int.{w128}
use Rattle.std.specs.Prelude.{FitsSigned}
use Rattle.fixdec.specs.Interval.{ends}
use Rattle.fixdec.specs.Scaled.{floor_times, ceil_times}
use Rattle.exactdec.proofs.Spans.{ends_steps, times_order, times_whole}
use Rattle.exactdec.proofs.scale.ends.Goals as goal

-- the two quotients
quotients : (c : goal.After-ceil_div-hi) → (c.floor_div-lo.result ≡ floor_times c.args.mant c.args.k) × (c.ceil_div-hi.result ≡ ceil_times c.args.mant c.args.k)
quotients c =
    let mant_fits = c.ranges.mant in
    let k_fits = c.ranges.k in
    let unit_fits : FitsSigned w128 c.pow10-unit.result = record { sfits = c.pow10-unit.type_inv } in
    let below = c.floor_div-lo.ensures.value in
    let above = c.ceil_div-hi.ensures.value in
    let size = c.unsigned_abs.ensures.value in
    let test = c.if-k-ge0.false in
    ends_steps c.args.mant c.args.k c.pow10-unit.result c.floor_div-lo.result c.ceil_div-hi.result c.unsigned_abs.result c.min.result c.requires.size (simp to_z-of_z at test) (simp to_z-of_z at size) c.min.ensures c.pow10-unit.ensures.value (simp to_z-of_z at below) (simp to_z-of_z at above)

pub in_cap-requires : goal.in_cap-requires
in_cap-requires c =
    let floor_fits : FitsSigned w128 c.floor_div-lo.result = record { sfits = c.floor_div-lo.type_inv } in
    let ceil_fits : FitsSigned w128 c.ceil_div-hi.result = record { sfits = c.ceil_div-hi.type_inv } in
    simp to_z-of_z (rw ((quotients c).0, (quotients c).1) (times_order c.args.mant c.args.k))

pub returns-then-k-ge0 : goal.returns-then-k-ge0
returns-then-k-ge0 c =
    let mant_fits = c.ranges.mant in
    let k_fits = c.ranges.k in
    let test = c.if-k-ge0.true in
    let whole = times_whole c.args.mant c.args.k (simp to_z-of_z at test) in
    let answer = c.product.ensures in
    simp to_z-of_z at answer ∙ (λ i. ends (sym whole.0 i) (sym whole.1 i))

pub returns : goal.returns
returns c =
    let mant_fits = c.ranges.mant in
    let k_fits = c.ranges.k in
    let unit_fits : FitsSigned w128 c.pow10-unit.result = record { sfits = c.pow10-unit.type_inv } in
    let floor_fits : FitsSigned w128 c.floor_div-lo.result = record { sfits = c.floor_div-lo.type_inv } in
    let ceil_fits : FitsSigned w128 c.ceil_div-hi.result = record { sfits = c.ceil_div-hi.type_inv } in
    let below = c.floor_div-lo.ensures.value in
    let above = c.ceil_div-hi.ensures.value in
    let size = c.unsigned_abs.ensures.value in
    let test = c.if-k-ge0.false in
    let q = ends_steps c.args.mant c.args.k c.pow10-unit.result c.floor_div-lo.result c.ceil_div-hi.result c.unsigned_abs.result c.min.result c.requires.size (simp to_z-of_z at test) (simp to_z-of_z at size) c.min.ensures c.pow10-unit.ensures.value (simp to_z-of_z at below) (simp to_z-of_z at above) in
    let answer = c.in_cap.ensures in
    simp to_z-of_z at answer ∙ (λ i. ends (q.0 i) (q.1 i))
