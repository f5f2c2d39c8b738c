use Rattle.std.proofs.Common.{◌≡◌, ◌∷◌, ℕ, drop, ap, sym, ◌∙◌, arith}
use Rattle.lensmodel.specs.Files.TextLines.{words}
use Rattle.records.proofs.Asked.{behind, none_left, there, is_there}
use Rattle.records.proofs.line.nth_word.Goals as goal

pub returns-in_err-behind : goal.returns-in_err-behind
returns-in_err-behind c =
    rw c.from_residual.ensures
    (none_left c.loop.counter c.args.k (words c.args.units.now) (omega arith) (sym c.in_err-behind.ensures.words ∙ c.loop.invariant))

pub loop-preserved : goal.loop-preserved
loop-preserved c = behind c.loop.counter (words c.args.units.now) _ _ _ c.loop.invariant c.in_ok-behind.ensures.words

pub returns-in_err-word : goal.returns-in_err-word
returns-in_err-word c =
    rw c.from_residual-in_err-word.ensures
    (none_left c.loop.counter c.args.k (words c.args.units.now) (omega arith) (sym c.in_err-word.ensures.words ∙ c.loop.invariant))

pub returns : goal.returns
returns c =
    let all = words c.args.units.now in
    let last : c.loop.counter ≡ c.args.k = omega arith in
    let left : _ ∷ _ ≡ drop c.args.k all = sym c.in_ok-word.ensures.words ∙ c.loop.invariant ∙ ap (λ (n : ℕ). drop n all) last in
    (there c.args.k all _ _ left, is_there c.args.k all _ _ left)
