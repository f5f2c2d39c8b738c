use Rattle.std.proofs.Common.{ℤ, pos, ◌^◌, sym, ◌∙◌, ap, of_z}
use Rattle.std.proofs.lemmas.Int.{to_z-of_z}
use Rattle.std.specs.Int.{w128}
use Rattle.std.specs.Prelude.{◌*ℤ◌, FitsSigned}
use lib.IntN.{zero-*ℤ}
use Rattle.fixdec.specs.Interval.{ends}
use Rattle.exactdec.proofs.Spans.{ends_lost_lo, past_cap, far_past_cap, zero_from_bits, in_cap_times}
use Rattle.exactdec.proofs.scale.product.Goals as goal

pub returns-then-mant-eq0 : goal.returns-then-mant-eq0
returns-then-mant-eq0 c =
    let zero = zero_from_bits c.args.mant c.ranges.mant c.if-mant-eq0.true in
    let times = ap (λ (m : ℤ). m *ℤ pos (10 ^ c.args.k)) zero ∙ zero-*ℤ (pos (10 ^ c.args.k)) in
    c.in_cap.ensures ∙ ap (λ (m : ℤ). ends m m) (sym times)

pub returns-then-k-gt18 : goal.returns-then-k-gt18
returns-then-k-gt18 c = sym (ends_lost_lo _ _ (far_past_cap c.args.mant c.args.k (λ e. c.if-mant-eq0.false (ap (of_z w128) e)) c.if-k-gt18.true))

pub returns-then-not-is_in_cap : goal.returns-then-not-is_in_cap
returns-then-not-is_in_cap c =
    let fits = c.ranges.mant in
    let past = c.if-not-is_in_cap.ensures in
    sym (ends_lost_lo _ _ (past_cap c.args.mant c.args.k (sym (simp to_z-of_z at past))))

pub overflow_mul-v : goal.overflow_mul-v
overflow_mul-v c =
    let fits = c.ranges.mant in
    let power : FitsSigned w128 c.pow10.result = record { sfits = c.pow10.type_inv } in
    let here = c.if-not-is_in_cap.ensures in
    simp to_z-of_z (rw c.pow10.ensures.value (in_cap_times c.args.mant c.args.k (sym (simp to_z-of_z at here)) c.if-k-gt18.false))

pub returns : goal.returns
returns c =
    let fits = c.ranges.mant in
    let power : FitsSigned w128 c.pow10.result = record { sfits = c.pow10.type_inv } in
    let here = c.if-not-is_in_cap.ensures in
    let product : FitsSigned w128 (c.args.mant *ℤ c.pow10.result) = rw c.pow10.ensures.value (in_cap_times c.args.mant c.args.k (sym (simp to_z-of_z at here)) c.if-k-gt18.false) in
    let answer = c.in_cap-2.ensures in
    rw (← c.pow10.ensures.value) (simp to_z-of_z at answer)
