use Rattle.std.proofs.Common.{◌≡◌, pos, ◌-ℤ◌, ◌^◌, ap, sym, ◌∙◌, arith}
use Rattle.std.proofs.lemmas.Int.{ints, to_z-of_z}
use Rattle.std.specs.Int.{w128}
use Rattle.std.specs.Prelude.{FitsSigned, int_le}
use Rattle.jobtext.proofs.Widths.{not_positive, too_great, within_bound}
use Rattle.jobtext.proofs.setting.is_width.Goals as goal
use Rattle.jobtext.proofs.setting.is_width.Goals.{then-d-le0-via-then-d-le0, then-d-le0-via-else-d-le0+then-d-gt3}

pub returns-then-d-le0 : goal.returns-then-d-le0
returns-then-d-le0 c =
    let d = c.d.inside in
    rw (← c.d.view_is)
    (elim c.then-d-le0.branch [
      | then-d-le0-via-then-d-le0 w ↦ sym (not_positive d.mant d.exp (omega (arith, ints)))
      | then-d-le0-via-else-d-le0+then-d-gt3 w ↦ sym (too_great d.mant d.exp (omega (arith, ints)) (omega (arith, ints)))
    ])

pub returns : goal.returns
returns c =
    let d = c.d.inside in
    let j = c.unsigned_abs.result in
    let h = c.unsigned_abs.ensures.value in
    let e : pos j ≡ pos 3 -ℤ d.exp = omega (arith, ints) in
    let fits_mant : FitsSigned w128 d.mant = record { sfits = omega (arith, ints) } in
    let fits_power : FitsSigned w128 c.pow10.result = record { sfits = omega (arith, ints) } in
    rw (← c.d.view_is)
    (simp to_z-of_z
    (ap (int_le d.mant) (c.pow10.ensures.value ∙ ap (λ n. pos (10 ^ n)) c.min.ensures)
    ∙ within_bound d.mant d.exp j (omega (arith, ints)) (omega (arith, ints)) c.d.invariant.digits e))
