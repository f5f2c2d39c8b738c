-- The words of each line, in a file that has remarks or has none.
use Rattle.std.specs.Prelude.{ℕ, Bool, true, false, List}
use Rattle.lensmodel.specs.Files.Records.{Words, each_words, record_words, each_record}
use Rattle.lensmodel.specs.Files.TextLines.{words}

abbrev pub line_words : Bool → List ℕ → Words
line_words true line = record_words line
line_words false line = words line

abbrev pub each_line : Bool → List (List ℕ) → List Words
each_line true lines = each_record lines
each_line false lines = each_words lines
