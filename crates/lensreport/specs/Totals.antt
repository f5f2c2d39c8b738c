-- How many rays there are, and how many of them have each word. Cited by the totals of a trace.
use Rattle.std.specs.Prelude.{ℕ, ◌+◌, Bool, List, ◌++◌, codes, length, filter}
use Rattle.lensmodel.specs.Rows.Spot.{is_pass}
use Rattle.lensmodel.specs.Texts.Pieces.{newline, spaced_number}
use Rattle.lensmodel.specs.Texts.Rows.{is_vignetted, is_outside, is_tir, is_undecided, is_wide, is_lost}
use Rattle.lensmodel.specs.declared.row.Row.{Row}
use Rattle.lensmodel.specs.declared.row.Word.{Word}
use Rattle.lensmodel.specs.declared.row.Word.TheVariants.{Passes, Vignetted, Outside, Tir, Undecided, Wide, Lost}

pub record Counts : Type 0 where
  pub rays : ℕ
  pub passes : ℕ
  pub vignetted : ℕ
  pub outside : ℕ
  pub tir : ℕ
  pub undecided : ℕ
  pub wide : ℕ
  pub lost : ℕ

-- how many rows have such a word
abbrev pub count_of : (Word → Bool) → List Row → ℕ
count_of is rows = length (filter (λ row. is row.word) rows)

abbrev pub counts_of : List Row → Counts
counts_of rows = record {
  rays = length rows;
  passes = count_of is_pass rows;
  vignetted = count_of is_vignetted rows;
  outside = count_of is_outside rows;
  tir = count_of is_tir rows;
  undecided = count_of is_undecided rows;
  wide = count_of is_wide rows;
  lost = count_of is_lost rows;
}

-- one ray more, of such a word
abbrev pub with_word : Counts → Word → Counts
with_word c Passes = record c { rays = c.rays + 1; passes = c.passes + 1 }
with_word c (Vignetted j) = record c { rays = c.rays + 1; vignetted = c.vignetted + 1 }
with_word c (Outside j) = record c { rays = c.rays + 1; outside = c.outside + 1 }
with_word c (Tir j) = record c { rays = c.rays + 1; tir = c.tir + 1 }
with_word c (Undecided j rho rim2) = record c { rays = c.rays + 1; undecided = c.undecided + 1 }
with_word c Wide = record c { rays = c.rays + 1; wide = c.wide + 1 }
with_word c (Lost j why) = record c { rays = c.rays + 1; lost = c.lost + 1 }

-- a count after its name
abbrev pub count_text : List ℕ → ℕ → List ℕ
count_text name n = codes " " ++ name ++ spaced_number n

abbrev pub counts_line : Counts → List ℕ
counts_line c =
    codes "total" ++ count_text (codes "rays") c.rays ++ count_text (codes "passes") c.passes
    ++ count_text (codes "vignetted") c.vignetted ++ count_text (codes "outside") c.outside ++ count_text (codes "tir") c.tir
    ++ count_text (codes "undecided") c.undecided ++ count_text (codes "wide") c.wide ++ count_text (codes "lost") c.lost ++ newline
