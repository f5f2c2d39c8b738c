use Rattle.std.proofs.Common.{ℕ, length, ap, arith, length-append}
use Rattle.std.proofs.lemmas.Int.{to_z-of_z}
use Rattle.std.specs.Int.{w32, cast_unsigned}
use Rattle.exactdec.proofs.Texts.{dec_text_steps, dec_text_whole, small_mant, length-exp, fits_mant, fits_exp, zero_bits}
use Rattle.exactdec.proofs.print.print_dec.Goals as goal

pub push_signed-requires : goal.push_signed-requires
push_signed-requires c =
    let fits = fits_mant c.v.inside.mant c.v.invariant.digits in
    simp to_z-of_z (omega (arith, ap length c.requires, small_mant c.v.inside.mant c.v.invariant.digits))

pub push_byte-requires-clause-room : goal.push_byte-requires-clause-room
push_byte-requires-clause-room c =
    let fits = fits_mant c.v.inside.mant c.v.invariant.digits in
    omega (arith, ap length c.requires, ap length (simp to_z-of_z at c.push_signed.ensures), length-append {A = ℕ}, small_mant c.v.inside.mant c.v.invariant.digits)

pub push_signed-requires-then-v-ne0 : goal.push_signed-requires-then-v-ne0
push_signed-requires-then-v-ne0 c =
    let fits = fits_mant c.v.inside.mant c.v.invariant.digits in
    let fits32 = (fits_exp c.v.inside.exp c.v.invariant.low c.v.invariant.high).0 in
    let fits128 = (fits_exp c.v.inside.exp c.v.invariant.low c.v.invariant.high).1 in
    simp to_z-of_z (omega (arith, ap length c.requires, ap length c.push_byte.ensures, ap length (simp to_z-of_z at c.push_signed.ensures), length-append {A = ℕ}, small_mant c.v.inside.mant c.v.invariant.digits, length-exp c.v.inside.exp c.v.invariant.low c.v.invariant.high))

pub returns-then-v-ne0 : goal.returns-then-v-ne0
returns-then-v-ne0 c =
    let fits = fits_mant c.v.inside.mant c.v.invariant.digits in
    let fits32 = (fits_exp c.v.inside.exp c.v.invariant.low c.v.invariant.high).0 in
    let fits128 = (fits_exp c.v.inside.exp c.v.invariant.low c.v.invariant.high).1 in
    rw (← c.v.view_is)
    (dec_text_steps (record { mant = c.v.inside.mant; exp = c.v.inside.exp }) _ _ _ _ c.requires (simp to_z-of_z at c.push_signed.ensures) (λ e. c.if-v-ne0.true (ap (cast_unsigned w32) e)) c.push_byte.ensures (simp to_z-of_z at c.push_signed-then-v-ne0.ensures))

pub returns-else-v-ne0 : goal.returns-else-v-ne0
returns-else-v-ne0 c =
    let fits = fits_mant c.v.inside.mant c.v.invariant.digits in
    rw (← c.v.view_is)
    (dec_text_whole (record { mant = c.v.inside.mant; exp = c.v.inside.exp }) _ _ c.requires (simp to_z-of_z at c.push_signed.ensures) (zero_bits c.v.inside.exp c.v.invariant.low c.v.invariant.high c.if-v-ne0.false))
