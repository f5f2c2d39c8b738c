use Rattle.std.proofs.Common.{◌+◌, ◌*◌, ◌/◌, ◌%◌, ◌^◌, ◌∙◌, ap, arith}
use Rattle.std.proofs.lemmas.Nat.{mul-le}
use Rattle.fixdec.proofs.Steps.{within, next_below, two_steps}
use Rattle.fixdec.proofs.tens.in_two_steps.Goals as goal

pub overflow_add-result : goal.overflow_add-result
overflow_add-result c =
    let a = c.args in
    let r = c.requires in
    let l = next_below (a.n / (a.low * a.part) % 2 ^ 63) (a.n / a.low) a.part a.odd (omega arith) r.parts in
    let h = r.product in
    search arith

pub returns : goal.returns
returns c =
    let a = c.args in
    let r = c.requires in
    let positive = mul-le 1 1 a.low a.part r.factor r.parts in
    ap (λ h. h / a.odd * a.part + (h % a.odd * a.part + a.n / a.low % a.part) / a.odd) (within a.n (a.low * a.part) _ (omega arith) r.number)
    ∙ two_steps a.n a.low a.part a.odd (omega arith)
