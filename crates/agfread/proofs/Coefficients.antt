-- The coefficients of a line, taken one after another.
use Rattle.std.proofs.Common.{◌≡◌, ℕ, List, ◌+◌, drop, ap, ◌∙◌, drop-drop}
use Rattle.fixdec.specs.Decimal.{Decimal}
use Rattle.fixdec.specs.Reading.{decimal_of}
use Rattle.lensmodel.specs.Files.Records.{Words, decimal_at, decimal_or_0}
use Rattle.records.specs.WordLaws.{word_at-drop}

-- one word more is taken
pub one_less : (k : ℕ) (line left more : Words) → left ≡ drop k line → more ≡ drop 1 left → more ≡ drop (k + 1) line
one_less k line left more at e = e ∙ ap (drop 1) at ∙ drop-drop 1 k line

-- the decimal of the first word that is left
pub of_first : (k : ℕ) (line left : Words) (d : Decimal) → left ≡ drop k line → d ≡ decimal_at 0 left → d ≡ decimal_at k line
of_first k line left d at e =
    e ∙ ap (decimal_at 0) at ∙ ap (λ (w : List ℕ). decimal_or_0 (decimal_of w)) (word_at-drop k line)
