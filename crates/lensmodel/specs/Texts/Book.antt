-- The lines of a glass catalogue. Cited by the command glass.
use Rattle.std.specs.Prelude.{ℕ, List, [], ◌∷◌, ◌++◌, codes, length}
use Rattle.std.specs.Fmt.{decimal}
use Rattle.lensmodel.specs.Texts.Pieces.{newline, name_text, bound_text, spaced}
use Rattle.lensmodel.specs.declared.glass.Glass.{Glass}

-- the lines of a book: how many glasses, and each with its formula, range and coefficients
abbrev pub glasses_line : ℕ → List ℕ
glasses_line n = codes "glasses " ++ decimal n ++ newline

abbrev pub glass_head : Glass → List ℕ
glass_head g = codes "glass " ++ name_text g.name.items ++ codes " formula " ++ decimal g.formula

abbrev pub glass_range : Glass → List ℕ
glass_range g = codes " low " ++ bound_text g.low ++ codes " high " ++ bound_text g.high

abbrev pub glass_coefficients : Glass → List ℕ
glass_coefficients g = codes " coef" ++ spaced g.c0 ++ spaced g.c1 ++ spaced g.c2 ++ spaced g.c3 ++ spaced g.c4 ++ spaced g.c5

abbrev pub glass_line : Glass → List ℕ
glass_line g = glass_head g ++ glass_range g ++ glass_coefficients g ++ newline

abbrev pub glass_lines : List Glass → List ℕ
glass_lines [] = []
glass_lines (g ∷ more) = glass_line g ++ glass_lines more

abbrev pub book_text : List Glass → List ℕ
book_text book = glasses_line (length book) ++ glass_lines book
