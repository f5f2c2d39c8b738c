-- Numbers among the words of a line.
use Rattle.std.specs.Prelude.{Bool, false, is_none, if◌then◌else◌}
use Rattle.fixdec.specs.Reading.{decimal_of}
use Rattle.lensmodel.specs.Files.Records.{Words, word_at}
use Rattle.records.specs.Words.{has_word}

-- whether the first of some words is there and is no decimal
abbrev pub is_bad : Words → Bool
is_bad ws = if has_word 0 ws then is_none (decimal_of (word_at 0 ws)) else false
