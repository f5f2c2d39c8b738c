use Rattle.std.proofs.Common.{◌≡◌, ℕ, suc, ◌+◌, ◌-◌, ◌^◌, ◌≤◌, sym, ap, ◌∙◌, arith}
use Rattle.std.proofs.Math.Nat.{pow-le-pow_right}
use Rattle.fixdec.specs.Zone.{least_power}
use Rattle.exactdec.proofs.Norms.{least_power-found, least_power-next, least_power-last}
use Rattle.exactdec.proofs.zone.power_above.Goals as goal

pub pow-requires : goal.pow-requires
pow-requires c = let most : 10 ^ c.loop-k.k ≤ 10 ^ 24 = pow-le-pow_right {n = 10} (omega arith) {i = c.loop-k.k} {j = 24} (omega arith) in omega arith

pub returns-then-zone-pow-clause-value : goal.returns-then-zone-pow-clause-value
returns-then-zone-pow-clause-value c =
    let e = c.pow.ensures in
    let t = c.if-zone-pow.true in
    sym (least_power-found c.args.zone (24 - c.loop-k.k) c.loop-k.k (omega arith)) ∙ c.loop-k.invariant

pub loop-k-preserved : goal.loop-k-preserved
loop-k-preserved c =
    let power = c.pow.ensures in
    let past = c.if-zone-pow.false in
    let step : 24 - c.loop-k.k ≡ suc (24 - (c.loop-k.k + 1)) = omega arith in
    sym (least_power-next c.args.zone (24 - (c.loop-k.k + 1)) c.loop-k.k (omega arith)) ∙ ap (λ (n : ℕ). least_power c.args.zone n c.loop-k.k) (sym step) ∙ c.loop-k.invariant

pub returns-clause-value : goal.returns-clause-value
returns-clause-value c =
    let end : c.loop-k.k ≡ 24 = omega arith in
    sym (ap (λ (k : ℕ). least_power c.args.zone (24 - k) k) end ∙ least_power-last c.args.zone 24) ∙ c.loop-k.invariant
