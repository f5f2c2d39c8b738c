-- The word of a walk, from the words of its rims one after another. Cited by the walk at one scale.
use Rattle.std.proofs.Common.{◌≡◌, ℕ, suc, Bool, true, false, List, [], ◌∷◌, ◌++◌, refl, append_assoc, append-nil}
use Rattle.std.specs.Prelude.{◌||◌, Option, Some, None, if◌then◌else◌}
use Rattle.fixdec.specs.Decimal.{Decimal}
use Rattle.fixdec.specs.Ends.{Ends}
use Rattle.lensmodel.specs.Rows.Outcome.{Passed, Walked, Outcome, before, is_wide_place, some_wide, overlaps, rim_word_at, rim_word, word_of, places_of}
use Rattle.lensmodel.specs.declared.row.Place.{Place}
use Rattle.lensmodel.specs.declared.row.Word.{Word}
use Rattle.lensmodel.specs.declared.row.Word.TheVariants.{Passes, Undecided, Wide}

-- the word of the rims so far, after the place at surface j
abbrev pub noted : Word → ℕ → Passed → Word
noted Passes j p = rim_word_at j p.place.rho p.rim2 Passes
noted w j p = w

-- after places from surface j on
abbrev pub noted_all : Word → ℕ → List Passed → Word
noted_all w j [] = w
noted_all w j (p ∷ more) = noted_all (noted w j p) (suc j) more

-- whether some place is wide
abbrev pub any_wide : ℕ → Decimal → List Place → Bool
any_wide scale width [] = false
any_wide scale width (p ∷ more) = is_wide_place scale width p || any_wide scale width more

-- the word by what ended the walk, its places, and the word of its rims
abbrev pub final_word : ℕ → Decimal → Option Word → List Place → Word → Word
final_word scale width (Some w) places rims = w
final_word scale width None places rims = if any_wide scale width places then Wide else rims

-- the outcome of a walk that has the places and the word of their rims behind it, and goes on at surface j
unfoldable pub judged : ℕ → Decimal → Word → List Place → ℕ → Walked → Outcome
judged scale width w places j rest =
    let all = places ++ places_of rest.places in
    record { scale = scale; word = final_word scale width rest.ended all (noted_all w j rest.places); places = all }

-- ---- laws
noted_all-undecided : (i j : ℕ) (rho rim2 : Ends) (ps : List Passed) → noted_all (Undecided i rho rim2) j ps ≡ Undecided i rho rim2
noted_all-undecided i j rho rim2 [] = refl
noted_all-undecided i j rho rim2 (p ∷ more) = noted_all-undecided i (suc j) rho rim2 more

noted_at : (j : ℕ) (rho : Ends) (rim2 : Option Ends) (more : List Passed) → noted_all Passes (suc j) more ≡ rim_word (suc j) more
    → noted_all (rim_word_at j rho rim2 Passes) (suc j) more ≡ rim_word_at j rho rim2 (rim_word (suc j) more)
noted_at j rho None more h = h
noted_at j rho (Some rim2) more h = by (overlaps rho rim2)
  where
    by : (b : Bool) → noted_all (if b then Undecided j rho rim2 else Passes) (suc j) more ≡ (if b then Undecided j rho rim2 else rim_word (suc j) more)
    by true = noted_all-undecided j (suc j) rho rim2 more
    by false = h

noted_all-passes : (j : ℕ) (ps : List Passed) → noted_all Passes j ps ≡ rim_word j ps
noted_all-passes j [] = refl
noted_all-passes j (p ∷ more) = noted_at j p.place.rho p.rim2 more (noted_all-passes (suc j) more)

any_wide-places : (scale : ℕ) (width : Decimal) (ps : List Passed) → any_wide scale width (places_of ps) ≡ some_wide scale width ps
any_wide-places scale width [] = refl
any_wide-places scale width (p ∷ more) = rw (any_wide-places scale width more) refl

first_word : (scale : ℕ) (width : Decimal) (ended : Option Word) (ps : List Passed)
    → final_word scale width ended (places_of ps) (noted_all Passes 1 ps) ≡ word_of scale width ended ps
first_word scale width (Some w) ps = refl
first_word scale width None ps = rw (any_wide-places scale width ps, noted_all-passes 1 ps) refl

-- nothing is behind a walk from the start
pub judged-first : (scale : ℕ) (width : Decimal) (w : Walked)
    → judged scale width Passes [] 1 w ≡ record { scale = scale; word = word_of scale width w.ended w.places; places = places_of w.places }
unfolding judged
judged-first scale width w = rw (first_word scale width w.ended w.places) refl

-- a place is behind the walk once it is noted
pub judged-before : (scale : ℕ) (width : Decimal) (w : Word) (places : List Place) (j : ℕ) (p : Passed) (rest : Walked)
    → judged scale width w places j (before p rest) ≡ judged scale width (noted w j p) (places ++ p.place ∷ []) (suc j) rest
unfolding judged
judged-before scale width w places j p rest = rw (append_assoc places (p.place ∷ []) (places_of rest.places)) refl

-- a walk that a word ends
pub judged-ended : (scale : ℕ) (width : Decimal) (rims end : Word) (places : List Place) (j : ℕ) (ps : List Passed)
    → judged scale width rims places j (record { ended = Some end; places = ps }) ≡ record { scale = scale; word = end; places = places ++ places_of ps }
unfolding judged
judged-ended scale width rims end places j ps = refl

-- a walk that comes to the image goes no further
pub judged-image : (scale : ℕ) (width : Decimal) (rims : Word) (places : List Place) (j : ℕ) (ps : List Passed)
    → judged scale width rims places j (record { ended = None; places = ps })
    ≡ judged scale width (noted_all rims j ps) (places ++ places_of ps) (suc j) (record { ended = None; places = [] })
unfolding judged
judged-image scale width rims places j ps = rw (append-nil (places ++ places_of ps)) refl

-- and its outcome
pub judged-over : (scale : ℕ) (width : Decimal) (rims : Word) (places : List Place) (j : ℕ)
    → judged scale width rims places j (record { ended = None; places = [] })
    ≡ record { scale = scale; word = if any_wide scale width places then Wide else rims; places = places }
unfolding judged
judged-over scale width rims places j = rw (append-nil places) refl
