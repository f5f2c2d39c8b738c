use Rattle.std.proofs.Common.{◌≡◌, rules}
use Rattle.std.specs.Prelude.{Result, Ok, Err, IfOk, OnOk, OnErr, Some, None}
use Rattle.fixdec.specs.Reading.{decimal_of}
use Rattle.lensmodel.specs.Files.Records.{word_at}
use Rattle.jobtext.proofs.Numbers.{good_word, bad_word}
use Rattle.jobtext.proofs.number.decimal.Goals as goal

on_ok : {T E : Type 0} {P : T → Type 0} {X : Type 0} (r : Result T E) → ((t : T) → P t → X) → IfOk r P → OnOk r X
on_ok (Ok t) f p = f t p
on_ok (Err e) f p = tt

on_err : {T E : Type 0} {P X : Type 0} (r : Result T E) → (P → X) → OnErr r P → OnErr r X
on_err (Ok t) f p = tt
on_err (Err e) f p = f p

pub returns-clause-good : goal.returns-clause-good
returns-clause-good c =
    let word = word_at c.args.k c.args.line.now in
    let v : IfOk c.map_err.result (λ d. decimal_of word ≡ Some d) = search rules in
    on_ok c.map_err.result (λ d p. good_word c.args.k c.args.line.now d c.requires.there p) v

pub returns-clause-bad : goal.returns-clause-bad
returns-clause-bad c =
    let word = word_at c.args.k c.args.line.now in
    let v : OnErr c.map_err.result (decimal_of word ≡ None) = search rules in
    on_err c.map_err.result (λ p. bad_word c.args.k c.args.line.now c.requires.there p) v
