use Rattle.std.proofs.Common.{◌≡◌, ◌∙◌, max, arith}
use Rattle.std.specs.Prelude.{◌-ℤ◌, unsigned_abs, FitsSigned}
use Rattle.std.specs.Int.{w128}
use Rattle.std.proofs.lemmas.Int.{to_z-of_z}
use Rattle.forms.proofs.Middles.{reach_bound}
use Rattle.forms.proofs.Sizes.{fits}
use Rattle.forms.proofs.form.spans.reach.Goals as goal

pub returns-clause-value : goal.returns-clause-value
returns-clause-value c =
    let a = c.args in
    let r = c.requires in
    let low = c.ranges.lo in
    let high = c.ranges.hi in
    let middle = c.ranges.centre in
    let most = reach_bound a.lo a.hi a.centre r.order r.low r.high r.middle in
    let above : FitsSigned w128 (a.hi -ℤ a.centre) = fits _ (omega arith) in
    let below : FitsSigned w128 (a.centre -ℤ a.lo) = fits _ (omega arith) in
    let first : c.unsigned_abs.result ≡ unsigned_abs (a.hi -ℤ a.centre) = simp to_z-of_z at c.unsigned_abs.ensures.value in
    let second : c.unsigned_abs-2.result ≡ unsigned_abs (a.centre -ℤ a.lo) = simp to_z-of_z at c.unsigned_abs-2.ensures.value in
    c.max.ensures ∙ (λ i. max (first i) (second i))

pub returns-clause-bound : goal.returns-clause-bound
returns-clause-bound c =
    let a = c.args in
    let r = c.requires in
    rw (returns-clause-value c) (reach_bound a.lo a.hi a.centre r.order r.low r.high r.middle)
