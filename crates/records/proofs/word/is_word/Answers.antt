use Rattle.std.proofs.Common.{◌≡◌, length, sym, arith}
use Rattle.std.proofs.lemmas.Grind.{same_number_lists}
use Rattle.records.specs.SameWords.{same-of}
use Rattle.records.proofs.word.is_word.Goals as goal

pub returns : goal.returns
returns c =
    let e : length c.args.word.now ≡ length c.args.text.now = omega arith in
    sym (same-of c.args.word.now c.args.text.now (same_number_lists c.args.word.now c.args.text.now e (λ k h. c.loop-i.invariant k (omega arith))))
