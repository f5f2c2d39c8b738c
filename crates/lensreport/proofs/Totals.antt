-- The totals of one ray more.
use Rattle.std.proofs.Common.{◌≡◌, ℕ, ◌+◌, Bool, true, false, List, [], ◌∷◌, ◌++◌, length, refl, sym, ap, add-zero, ◌∙◌}
use Rattle.std.proofs.lemmas.List.{length-append}
use Rattle.std.proofs.lemmas.List.Elements.{filter-append}
use Rattle.std.specs.Prelude.{filter}
use Rattle.lensmodel.specs.Rows.Spot.{is_pass}
use Rattle.lensmodel.specs.Texts.Rows.{is_vignetted, is_outside, is_tir, is_undecided, is_wide, is_lost}
use Rattle.lensmodel.specs.declared.row.Row.{Row}
use Rattle.lensmodel.specs.declared.row.Word.{Word}
use Rattle.lensmodel.specs.declared.row.Word.TheVariants.{Passes, Vignetted, Outside, Tir, Undecided, Wide, Lost}
use Rattle.lensreport.specs.Totals.{Counts, count_of, counts_of, with_word}

abbrev one_if : Bool → ℕ
one_if true = 1
one_if false = 0

count_of-one : (is : Word → Bool) (row : Row) (b : Bool) → is row.word ≡ b → count_of is (row ∷ []) ≡ one_if b
count_of-one is row true e = rw e refl
count_of-one is row false e = rw e refl

count_of-append : (is : Word → Bool) (rows : List Row) (row : Row) → count_of is (rows ++ row ∷ []) ≡ count_of is rows + one_if (is row.word)
count_of-append is rows row =
    ap length (filter-append (λ r. is r.word) rows (row ∷ []))
    ∙ length-append (filter (λ r. is r.word) rows) (filter (λ r. is r.word) (row ∷ []))
    ∙ ap (λ n. count_of is rows + n) (count_of-one is row (is row.word) refl)

abbrev added : Counts → Word → Counts
added c w = record {
  rays = c.rays + 1;
  passes = c.passes + one_if (is_pass w);
  vignetted = c.vignetted + one_if (is_vignetted w);
  outside = c.outside + one_if (is_outside w);
  tir = c.tir + one_if (is_tir w);
  undecided = c.undecided + one_if (is_undecided w);
  wide = c.wide + one_if (is_wide w);
  lost = c.lost + one_if (is_lost w);
}

with_word-added : (c : Counts) (w : Word) → added c w ≡ with_word c w
with_word-added c Passes = simp add-zero
with_word-added c (Vignetted j) = simp add-zero
with_word-added c (Outside j) = simp add-zero
with_word-added c (Tir j) = simp add-zero
with_word-added c (Undecided j rho rim2) = simp add-zero
with_word-added c Wide = simp add-zero
with_word-added c (Lost j why) = simp add-zero

counts_of-added : (rows : List Row) (row : Row) → counts_of (rows ++ row ∷ []) ≡ added (counts_of rows) row.word
counts_of-added rows row =
    let rays = length-append rows (row ∷ []) in
    let passes = count_of-append is_pass rows row in
    let vignetted = count_of-append is_vignetted rows row in
    let outside = count_of-append is_outside rows row in
    let tir = count_of-append is_tir rows row in
    let undecided = count_of-append is_undecided rows row in
    let wide = count_of-append is_wide rows row in
    let lost = count_of-append is_lost rows row in
    λ i. record {
      rays = rays i;
      passes = passes i;
      vignetted = vignetted i;
      outside = outside i;
      tir = tir i;
      undecided = undecided i;
      wide = wide i;
      lost = lost i;
    }

pub counts_of-append : (rows : List Row) (row : Row) → counts_of (rows ++ row ∷ []) ≡ with_word (counts_of rows) row.word
counts_of-append rows row = counts_of-added rows row ∙ with_word-added (counts_of rows) row.word

pub rays-with_word : (c : Counts) (w : Word) → (with_word c w).rays ≡ c.rays + 1
rays-with_word c w = ap (λ (a : Counts). a.rays) (sym (with_word-added c w))
