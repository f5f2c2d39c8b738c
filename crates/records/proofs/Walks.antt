-- How far the lines were taken without an offence.
use Rattle.std.proofs.Common.{◌≡◌, ℕ, zero, suc, ◌+◌, ◌<◌, ◌≤◌, Bool, true, false, List, [], ◌∷◌, ◌++◌, length, take, drop, get_or, refl, sym, ap, subst, ◌∙◌, arith}
use Rattle.std.specs.Prelude.{Option, Some, None, slice_index_or}
use Rattle.std.proofs.Math.Seq.{take-suc, drop-cons}
use Rattle.std.proofs.lemmas.List.{take_all, at_drop_all}
use Rattle.lensmodel.specs.Files.Causes.{or_first}
use Rattle.lensmodel.specs.Files.Records.{Words, first_offence}
use Rattle.records.specs.Remarks.{each_line, line_words}

abbrev pub Offence : Type 0 → Type 0
Offence F = ℕ → List Words → Words → Option F

pub offence_along : {F : Type 0} (a b : Offence F) (found : Option F) (n : ℕ) (before : List Words) (line : Words) → a ≡ b → a n before line ≡ found → b n before line ≡ found
offence_along {F = F} a b found n before line e h = ap (λ (o : Offence F). o n before line) (sym e) ∙ h

-- the first offence is among the lines that are left
pub record NoneBefore {F : Type 0} (offence : Offence F) (ls : List Words) (i : ℕ) : Type 0 where
  pub left : first_offence offence 1 [] ls ≡ first_offence offence (suc i) (take i ls) (drop i ls)

next_line : {F : Type 0} (offence : Offence F) (ls : List Words) (i : ℕ) → i < length ls
    → first_offence offence (suc i) (take i ls) (drop i ls)
    ≡ or_first (offence (suc i) (take i ls) (get_or ls i [])) (first_offence offence (suc (suc i)) (take (suc i) ls) (drop (suc i) ls))
next_line offence ls i h =
    ap (first_offence offence (suc i) (take i ls)) (drop-cons ls i [] h)
    ∙ ap (λ (before : List Words). or_first (offence (suc i) (take i ls) (get_or ls i [])) (first_offence offence (suc (suc i)) before (drop (suc i) ls))) (sym (take-suc ls i [] h))

-- ---- the words of a line by its number
length-each : (remarks : Bool) (lines : List (List ℕ)) → length (each_line remarks lines) ≡ length lines
length-each true [] = refl
length-each true (l ∷ lines) = ap suc (length-each true lines)
length-each false [] = refl
length-each false (l ∷ lines) = ap suc (length-each false lines)

line_at : (remarks : Bool) (lines : List (List ℕ)) (i : ℕ) → i < length lines
    → get_or (each_line remarks lines) i [] ≡ line_words remarks (slice_index_or lines i [])
line_at remarks [] i h = absurd (omega arith)
line_at true (l ∷ lines) zero h = refl
line_at true (l ∷ lines) (suc i) h = line_at true lines i (omega arith)
line_at false (l ∷ lines) zero h = refl
line_at false (l ∷ lines) (suc i) h = line_at false lines i (omega arith)

pub words_along : (a b : Bool) (line : List ℕ) (found : Words) → a ≡ b → found ≡ line_words a line → found ≡ line_words b line
words_along a b line found e h = h ∙ ap (λ (remarks : Bool). line_words remarks line) e

-- ---- one line more
pub taken : (remarks : Bool) (lines : List (List ℕ)) (i : ℕ) (line : Words) → i < length lines → line ≡ line_words remarks (slice_index_or lines i [])
    → take i (each_line remarks lines) ++ line ∷ [] ≡ take (i + 1) (each_line remarks lines)
taken remarks lines i line h e =
    let ls = each_line remarks lines in
    let s : suc i ≡ i + 1 = omega arith in
    let below : i < length ls = omega (arith, length-each remarks lines) in
    ap (λ (l : Words). take i ls ++ l ∷ []) (e ∙ sym (line_at remarks lines i h)) ∙ sym (take-suc ls i [] below) ∙ ap (λ (k : ℕ). take k ls) s

-- what the offence of the line at i says of the first offence
offence_at : {F : Type 0} (offence : Offence F) (remarks : Bool) (lines : List (List ℕ)) (i : ℕ) (line : Words) (found : Option F) → i < length lines
    → line ≡ line_words remarks (slice_index_or lines i []) → NoneBefore offence (each_line remarks lines) i
    → offence (i + 1) (take i (each_line remarks lines)) line ≡ found
    → first_offence offence 1 [] (each_line remarks lines)
    ≡ or_first found (first_offence offence (suc (suc i)) (take (suc i) (each_line remarks lines)) (drop (suc i) (each_line remarks lines)))
offence_at {F = F} offence remarks lines i line found h e none o =
    let ls = each_line remarks lines in
    let s : suc i ≡ i + 1 = omega arith in
    let below : i < length ls = omega (arith, length-each remarks lines) in
    let is : offence (suc i) (take i ls) (get_or ls i []) ≡ found =
    ap (λ (k : ℕ). offence k (take i ls) (get_or ls i [])) s ∙ ap (offence (i + 1) (take i ls)) (line_at remarks lines i h ∙ sym e) ∙ o in
    none.left ∙ next_line offence ls i below
    ∙ ap (λ (f : Option F). or_first f (first_offence offence (suc (suc i)) (take (suc i) ls) (drop (suc i) ls))) is

pub NoneBefore-next : {F : Type 0} (offence : Offence F) (remarks : Bool) (lines : List (List ℕ)) (i : ℕ) (line : Words) → i < length lines
    → line ≡ line_words remarks (slice_index_or lines i []) → NoneBefore offence (each_line remarks lines) i
    → offence (i + 1) (take i (each_line remarks lines)) line ≡ None → NoneBefore offence (each_line remarks lines) (i + 1)
NoneBefore-next offence remarks lines i line h e none o =
    let s : suc i ≡ i + 1 = omega arith in
    let P : ℕ → Type 0 = λ k. NoneBefore offence (each_line remarks lines) k in
    subst P s (record { left = offence_at offence remarks lines i line None h e none o })

pub offends : {F : Type 0} (offence : Offence F) (remarks : Bool) (lines : List (List ℕ)) (i : ℕ) (line : Words) (f : F) → i < length lines
    → line ≡ line_words remarks (slice_index_or lines i []) → NoneBefore offence (each_line remarks lines) i
    → offence (i + 1) (take i (each_line remarks lines)) line ≡ Some f → first_offence offence 1 [] (each_line remarks lines) ≡ Some f
offends offence remarks lines i line f h e none o = offence_at offence remarks lines i line (Some f) h e none o

-- ---- all lines
pub all_taken : (remarks : Bool) (lines : List (List ℕ)) (i : ℕ) → length lines ≤ i → take i (each_line remarks lines) ≡ each_line remarks lines
all_taken remarks lines i h = take_all i (each_line remarks lines) (omega (arith, length-each remarks lines))

pub none_offends : {F : Type 0} (offence : Offence F) (remarks : Bool) (lines : List (List ℕ)) (i : ℕ) → length lines ≤ i
    → NoneBefore offence (each_line remarks lines) i → first_offence offence 1 [] (each_line remarks lines) ≡ None
none_offends offence remarks lines i h none =
    let ls = each_line remarks lines in
    none.left ∙ at_drop_all (first_offence offence (suc i) (take i ls)) ls i (omega (arith, length-each remarks lines))
