use Rattle.std.proofs.Common.{◌-◌, ◌∷◌, ℕ, List, drop, length, ap, sym, ◌∙◌, arith, length-drop}
use Rattle.std.specs.Prelude.{slice_range}
use Rattle.std.proofs.lemmas.List.{take_all}
use Rattle.lensmodel.specs.Files.TextLines.{words}
use Rattle.lenstext.proofs.Words.{no_word, first_word}
use Rattle.lenstext.proofs.word.split_word.Goals as goal

pub returns-in_err-start-clause-words : goal.returns-in_err-start-clause-words
returns-in_err-start-clause-words c = rw c.from_residual.ensures (no_word c.args.line.now c.in_err-start.ensures.first)

pub returns-clause-words : goal.returns-clause-words
returns-clause-words c =
    let line = c.args.line.now in
    let end = c.in_ok-start.end in
    first_word line c.in_ok-start.start end c.in_ok-start.ensures.first
    ∙ ap (λ (rest : List ℕ). slice_range line c.in_ok-start.start end ∷ words rest)
    (sym (take_all (length line - end) (drop end line) (omega (arith, length-drop end line))))
