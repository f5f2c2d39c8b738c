use Rattle.std.proofs.Common.{◌≡◌, pos, ◌^◌, min, ap, ◌∙◌, subst}
use Rattle.std.specs.Int.{w128}
use Rattle.std.specs.Prelude.{FitsSigned}
use Rattle.std.proofs.lemmas.Int.{to_z-of_z}
use Rattle.fixdec.specs.Rounding.{ratio, IsCeil}
use Rattle.dispers.proofs.Below.{below_multiple}
use Rattle.dispers.proofs.order.is_multiple_below.Goals as goal

pub returns : goal.returns
returns c =
    let m = c.ranges.m in
    let n = c.ranges.n in
    let power : FitsSigned w128 c.pow10.result = record { sfits = c.pow10.type_inv } in
    let quotient : FitsSigned w128 c.ceil_div.result = record { sfits = c.ceil_div.type_inv } in
    let e : c.pow10.result ≡ pos (10 ^ min c.args.k 30) = c.pow10.ensures.value ∙ ap (λ k. pos (10 ^ k)) c.min.ensures in
    let h = c.ceil_div.ensures.exact in
    let i = simp to_z-of_z at h in
    simp to_z-of_z (below_multiple c.args.m c.args.n c.ceil_div.result c.args.k c.requires (subst (λ d. IsCeil (ratio c.args.n d) c.ceil_div.result) e i))
