-- The line of an index. Cited by the command index.
use Rattle.std.specs.Prelude.{ℕ, List, ◌++◌, codes}
use Rattle.fixdec.specs.Decimal.{Decimal}
use Rattle.fixdec.specs.DecimalText.{dec_text}
use Rattle.fixdec.specs.Ends.{Ends}
use Rattle.lensmodel.specs.Texts.Pieces.{newline, name_text, span_text}

-- the line of one index: the catalogue's name, the wavelength, and the interval at scale 12
abbrev pub index_line : List ℕ → Decimal → Ends → List ℕ
index_line name wave n = codes "index " ++ name_text name ++ codes " " ++ dec_text wave ++ codes " " ++ span_text 12 n ++ newline
