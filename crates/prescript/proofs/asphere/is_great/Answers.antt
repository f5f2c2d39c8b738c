use Rattle.std.proofs.Common.{ℕ, ℤ, pos, negsuc, ◌<◌, ◌≤◌, ◌^◌, FitsSigned, arith, ◌∙◌}
use Rattle.std.proofs.Math.Nat.{pow-le-pow_right}
use Rattle.std.proofs.lemmas.Bool.{le-ltb}
use Rattle.std.proofs.lemmas.Int.{ints, fits_signed_from_abs, to_z-of_z}
use Rattle.std.specs.Int.{w32, w128}
use Rattle.std.specs.Prelude.{unsigned_abs, ◌-ℤ◌, ◌≤ℤ◌}
use Rattle.prescript.proofs.Great.{great_over, great_within, great_under}
use Rattle.prescript.proofs.asphere.is_great.Goals as goal

fits_mant : (z : ℤ) → unsigned_abs z < 10 ^ 30 → FitsSigned w128 z
fits_mant z h = fits_signed_from_abs w128 z (omega arith)

fits_exp : (z : ℤ) → negsuc 107 ≤ℤ z → z ≤ℤ pos 78 → FitsSigned w32 z
fits_exp (pos n) l h = record { sfits = omega (arith, ints) }
fits_exp (negsuc n) l h = record { sfits = omega (arith, ints) }

small_difference : (z : ℤ) → negsuc 107 ≤ℤ z → z ≤ℤ pos 78 → unsigned_abs (pos 9 -ℤ z) < 1000
small_difference (pos n) l h = omega (arith, ints)
small_difference (negsuc n) l h = omega (arith, ints)

fits_difference : (z : ℤ) → negsuc 107 ≤ℤ z → z ≤ℤ pos 78 → FitsSigned w32 (pos 9 -ℤ z)
fits_difference z l h = let s = small_difference z l h in fits_signed_from_abs w32 (pos 9 -ℤ z) (omega arith)

small_power : (k : ℕ) → k < 30 → 10 ^ k < 2 ^ 128
small_power k h = let most : 10 ^ k ≤ 10 ^ 30 = pow-le-pow_right {n = 10} (omega arith) {i = k} {j = 30} (omega arith) in omega arith

pub returns-then-b-gt9 : goal.returns-then-b-gt9
returns-then-b-gt9 c =
    let mant = fits_mant c.b.inside.mant c.b.invariant.digits in
    let exp = fits_exp c.b.inside.exp c.b.invariant.low c.b.invariant.high in
    let size = c.unsigned_abs-size.ensures.value in
    let above = c.if-b-gt9.true in
    rw (← c.b.view_is) (great_over c.b.inside.mant c.b.inside.exp c.unsigned_abs-size.result (simp to_z-of_z at size) (simp to_z-of_z at above))

pub pow-requires : goal.pow-requires
pow-requires c = small_power _ c.if-power-lt30.true

pub returns-then-power-lt30 : goal.returns-then-power-lt30
returns-then-power-lt30 c =
    let mant = fits_mant c.b.inside.mant c.b.invariant.digits in
    let exp = fits_exp c.b.inside.exp c.b.invariant.low c.b.invariant.high in
    let difference = fits_difference c.b.inside.exp c.b.invariant.low c.b.invariant.high in
    let size = c.unsigned_abs-size.ensures.value in
    let above = c.if-b-gt9.false in
    rw (← c.b.view_is, c.pow.ensures) (simp to_z-of_z (great_within c.b.inside.mant c.b.inside.exp c.unsigned_abs-size.result (simp to_z-of_z at size) (simp to_z-of_z at above)))

pub returns-else-power-lt30 : goal.returns-else-power-lt30
returns-else-power-lt30 c =
    let exp = fits_exp c.b.inside.exp c.b.invariant.low c.b.invariant.high in
    let difference = fits_difference c.b.inside.exp c.b.invariant.low c.b.invariant.high in
    let above = c.if-b-gt9.false in
    let past = c.if-power-lt30.false in
    rw (← c.b.view_is) (le-ltb _ 30 past ∙ great_under c.b.inside.mant c.b.inside.exp c.b.invariant.digits (simp to_z-of_z at above) (simp to_z-of_z at past))
