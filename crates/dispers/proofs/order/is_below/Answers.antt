use Rattle.std.proofs.Common.{◌≡◌, pos, ◌^◌, ◌+ℤ◌, ◌-ℤ◌, ◌*ℤ◌, arith, sym, ◌∙◌}
use Rattle.std.proofs.lemmas.Int.{ints, to_z-of_z}
use Rattle.std.specs.Int.{w128, cast_signed, cast_unsigned}
use Rattle.std.specs.Prelude.{FitsSigned, int_lt}
use lib.IntN.{neg_ℤ}
use Rattle.fixdec.specs.Decimal.{Decimal}
use Rattle.dispers.proofs.Below.{below_from_above, below_from_under}
use Rattle.dispers.proofs.order.is_below.Goals as goal

pub returns-then-k-ge0 : goal.returns-then-k-ge0
returns-then-k-ge0 c =
    let a : Decimal = record { mant = c.a.inside.mant; exp = c.a.inside.exp } in
    let b : Decimal = record { mant = c.b.inside.mant; exp = c.b.inside.exp } in
    let h = c.unsigned_abs.ensures.value in
    let r = c.is_multiple_below.ensures in
    let e : a.exp ≡ b.exp +ℤ pos c.unsigned_abs.result = omega (arith, ints) in
    let fits_a : FitsSigned w128 a.mant = record { sfits = omega (arith, ints) } in
    let fits_b : FitsSigned w128 b.mant = record { sfits = omega (arith, ints) } in
    rw (← c.a.view_is, ← c.b.view_is) ((simp to_z-of_z at r) ∙ sym (below_from_above a b c.unsigned_abs.result e))

pub returns-else-k-ge0 : goal.returns-else-k-ge0
returns-else-k-ge0 c =
    let a : Decimal = record { mant = c.a.inside.mant; exp = c.a.inside.exp } in
    let b : Decimal = record { mant = c.b.inside.mant; exp = c.b.inside.exp } in
    let k = c.unsigned_abs-else-k-ge0.result in
    let h = c.unsigned_abs-else-k-ge0.ensures.value in
    let r = c.is_multiple_below-else-k-ge0.ensures in
    let e : b.exp ≡ a.exp +ℤ pos k = omega (arith, ints) in
    let less_a : cast_signed w128 (cast_unsigned w128 (pos 0 -ℤ cast_signed w128 (cast_unsigned w128 a.mant))) ≡ neg_ℤ a.mant = omega (arith, ints) in
    let less_b : cast_signed w128 (cast_unsigned w128 (pos 0 -ℤ cast_signed w128 (cast_unsigned w128 b.mant))) ≡ neg_ℤ b.mant = omega (arith, ints) in
    rw (← c.a.view_is, ← c.b.view_is) (r ∙ (λ i. int_lt (less_b i *ℤ pos (10 ^ k)) (less_a i)) ∙ sym (below_from_under a b k e))
