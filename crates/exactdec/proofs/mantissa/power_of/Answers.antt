use Rattle.std.proofs.Common.{◌≡◌, ℕ, ◌+◌, ◌-◌, ◌*◌, min, take, get_or, sym, ap, ◌∙◌, arith}
use Rattle.std.proofs.lemmas.List.{take_more}
use Rattle.fixdec.specs.Word.{number}
use Rattle.exactdec.proofs.Digits.{number-push}
use Rattle.exactdec.proofs.mantissa.power_of.Goals as goal

-- a number past the limit stays past it with another digit
capped_step : (n d p r : ℕ) → p ≡ min n 1_000_000_000_000_000_000_000_000_000_000 → r ≡ min (10 * p + d) 1_000_000_000_000_000_000_000_000_000_000 → r ≡ min (10 * n + d) 1_000_000_000_000_000_000_000_000_000_000
capped_step n d p r h k = omega arith

pub loop-c-preserved : goal.loop-c-preserved
loop-c-preserved c =
    let digits = c.args.digits.now in
    let i = c.loop-c.c-index in
    capped_step (number (take i digits)) (get_or digits i 0 - 48) c.loop-c.power c.min-power.result c.loop-c.invariant c.min-power.ensures
    ∙ ap (λ (n : ℕ). min n 1_000_000_000_000_000_000_000_000_000_000) (sym (ap number (take_more digits i 0 c.loop-c-test.true) ∙ number-push (take i digits) (get_or digits i 0)))
