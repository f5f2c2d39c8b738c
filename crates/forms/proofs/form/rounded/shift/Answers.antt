use Rattle.std.proofs.Common.{◌≡◌, ◌∙◌, ◌+◌, ◌*◌, ◌^◌, ◌∷◌, ap, map, sym, arith}
use Rattle.std.specs.Prelude.{pos, ◌*ℤ◌, ◌≤ℤ◌, ◌<ℤ◌, unsigned_abs}
use Rattle.std.specs.Int.{w32, w64, cast_signed, cast_unsigned, div_ceil}
use Rattle.std.proofs.lemmas.Int.{ints, to_z-of_z}
use lib.IntN.{*ℤ_comm}
use Rattle.fixdec.specs.Form.{within_cap, divided_form, remainders}
use Rattle.forms.proofs.Answered.{moved_zero, shift_down_at, shift_up_at}
use Rattle.forms.proofs.Floors.{floor_one, quotients_one, remainders_one, ceiling_one}
use Rattle.forms.proofs.Lists.{map_one}
use Rattle.forms.proofs.form.rounded.shift.Goals as goal

pub returns-then-k-gt0 : goal.returns-then-k-gt0
returns-then-k-gt0 g c =
    let a = c.args.a.now in
    let k = c.args.k in
    let above : pos 0 <ℤ k = (let h = c.if-k-gt0.true in let f = c.ranges.k in grind (arith, ints)) in
    let power : c.unsigned_abs.result ≡ unsigned_abs k = c.unsigned_abs.ensures.value ∙ ap unsigned_abs (to_z-of_z w32 k c.ranges.k) in
    let divisor : cast_signed w64 (cast_unsigned w64 c.unit-power.result) ≡ pos (10 ^ unsigned_abs k)
    = to_z-of_z w64 c.unit-power.result (record { sfits = c.unit-power.type_inv }) ∙ c.unit-power.ensures.value ∙ (λ i. pos (10 ^ power i)) in
    let centre : pos 1 *ℤ a.centre ≡ a.centre = omega (arith, ints) in
    let radius : a.radius * 1 ≡ a.radius = omega arith in
    let f = divided_form (pos (10 ^ unsigned_abs k)) a.centre a.coefficients (div_ceil a.radius (10 ^ unsigned_abs k)) in
    shift_down_at a k above (c.scaled.ensures
    ∙ (λ i. within_cap (divided_form (divisor i) (centre i) (map_one a.coefficients i) (div_ceil (radius i) (unsigned_abs (divisor i)))))
    ∙ ap within_cap (sym (moved_zero f)))

pub returns-else-k-gt0 : goal.returns-else-k-gt0
returns-else-k-gt0 g c =
    let a = c.args.a.now in
    let k = c.args.k in
    let below : k ≤ℤ pos 0 = (let h = c.if-k-gt0.false in let f = c.ranges.k in grind (arith, ints)) in
    let power : c.unsigned_abs.result ≡ unsigned_abs k = c.unsigned_abs.ensures.value ∙ ap unsigned_abs (to_z-of_z w32 k c.ranges.k) in
    let factor : cast_signed w64 (cast_unsigned w64 c.unit-power.result) ≡ pos (10 ^ unsigned_abs k)
    = to_z-of_z w64 c.unit-power.result (record { sfits = c.unit-power.type_inv }) ∙ c.unit-power.ensures.value ∙ (λ i. pos (10 ^ power i)) in
    let n = 10 ^ unsigned_abs k in
    let centre : pos n *ℤ a.centre ≡ a.centre *ℤ pos n = *ℤ_comm (pos n) a.centre in
    let ns : map (λ k'. pos n *ℤ k') a.coefficients ≡ map (λ k'. k' *ℤ pos n) a.coefficients = (λ i. map (λ k'. *ℤ_comm (pos n) k' i) a.coefficients) in
    let rest : div_ceil (a.radius * n) 1 + remainders (pos 1) ((a.centre *ℤ pos n) ∷ map (λ k'. k' *ℤ pos n) a.coefficients) ≡ a.radius * n
    = (let r = remainders_one ((a.centre *ℤ pos n) ∷ map (λ k'. k' *ℤ pos n) a.coefficients) in let e = ceiling_one (a.radius * n) in omega arith) in
    shift_up_at a k below (c.scaled-else-k-gt0.ensures
    ∙ (λ i. within_cap (divided_form (pos 1) (*ℤ_comm (factor i) a.centre i) (map (λ k'. *ℤ_comm (factor i) k' i) a.coefficients) (div_ceil (a.radius * unsigned_abs (factor i)) 1)))
    ∙ (λ i. within_cap (record { centre = floor_one (a.centre *ℤ pos n) i; coefficients = quotients_one (map (λ k'. k' *ℤ pos n) a.coefficients) i; radius = rest i })))
