use Rattle.std.proofs.Common.{ℕ, refl, ◌∙◌, ◌^◌, ◌++◌, length, ap, arith, length-append}
use Rattle.std.proofs.lemmas.Int.{to_z-of_z}
use Rattle.std.specs.Fmt.{decimal}
use Rattle.exactdec.proofs.Texts.{length-whole, fix_text_steps}
use Rattle.exactdec.proofs.print.print_fix.Goals as goal

pub push_number-requires : goal.push_number-requires
push_number-requires c =
    let fits = c.ranges.raw in
    let whole = length-whole _ _ c.args.raw c.requires.empty (simp to_z-of_z at c.push_minus.ensures) c.unsigned_abs-size.result (10 ^ c.args.scale) c.unsigned_abs-size.type_inv in
    omega (arith, ap (λ n. length (decimal n)) c.whole_part.ensures)

pub push_byte-requires-clause-room : goal.push_byte-requires-clause-room
push_byte-requires-clause-room c =
    let fits = c.ranges.raw in
    let whole = length-whole _ _ c.args.raw c.requires.empty (simp to_z-of_z at c.push_minus.ensures) c.unsigned_abs-size.result (10 ^ c.args.scale) c.unsigned_abs-size.type_inv in
    omega (arith, ap length c.push_number.ensures, length-append c.push_minus.new.out.bytes (decimal c.whole_part.result), ap (λ n. length (decimal n)) c.whole_part.ensures)

pub push_last_digits-requires : goal.push_last_digits-requires
push_last_digits-requires c =
    let fits = c.ranges.raw in
    let whole = length-whole _ _ c.args.raw c.requires.empty (simp to_z-of_z at c.push_minus.ensures) c.unsigned_abs-size.result (10 ^ c.args.scale) c.unsigned_abs-size.type_inv in
    omega (arith, ap length c.push_byte.ensures, length-append {A = ℕ}, ap length c.push_number.ensures, ap (λ n. length (decimal n)) c.whole_part.ensures)

pub returns : goal.returns
returns c =
    let fits = c.ranges.raw in
    let number = c.push_number.ensures ∙ ap (λ n. c.push_minus.new.out.bytes ++ decimal n) c.whole_part.ensures in
    fix_text_steps c.args.scale _ (10 ^ c.args.scale) c.args.raw _ _ _ _ _ c.requires.empty (simp to_z-of_z at c.push_minus.ensures) (simp to_z-of_z at c.unsigned_abs-size.ensures.value) refl number c.push_byte.ensures c.push_last_digits.ensures
