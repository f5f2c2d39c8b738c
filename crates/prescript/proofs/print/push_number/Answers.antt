use Rattle.std.proofs.Common.{◌≡◌, ℕ}
use Rattle.std.proofs.lemmas.Int.{to_z-of_z}
use Rattle.std.proofs.lemmas.List.{append-nil}
use Rattle.std.specs.Fmt.{decimal}
use Rattle.std.specs.Int.{w128}
use Rattle.std.specs.Prelude.{pos}
use Rattle.fixdec.specs.DecimalText.{dec_text}
use Rattle.prescript.proofs.print.push_number.Goals as goal

dec_text-whole : (n : ℕ) → dec_text (record { mant = pos n; exp = pos 0 }) ≡ decimal n
unfolding dec_text
dec_text-whole n = append-nil (decimal n)

pub returns-clause-bytes : goal.returns-clause-bytes
returns-clause-bytes c = rw (to_z-of_z w128 c.from.result (record { sfits = c.from.type_inv }), c.from.ensures, dec_text-whole c.args.n) at c.push_decimal.ensures.bytes
