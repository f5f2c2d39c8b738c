-- Words of a line, and where they stand.
use Rattle.std.proofs.Common.{◌≡◌, ℕ, zero, suc, ◌+◌, ◌-◌, ◌<◌, ◌≤◌, Bool, true, false, List, [], ◌∷◌, ◌++◌, length, get_or, take, drop, map, refl, ap, sym, ◌∙◌, subst, arith, length-drop, get_or-drop, drop-drop}
use Rattle.std.specs.Prelude.{if◌then◌else◌, slice_range}
use Rattle.std.proofs.lemmas.Bool.{le-ltb, le-leb}
use Rattle.std.proofs.lemmas.List.{at_drop_more, at_drop_all, length-take-le, take-map, take_at, take_all, append-nil}
use Rattle.lensmodel.specs.Files.TextLines.{onto_first, is_space, pieces, words, without_empty as filled}
use Rattle.lenstext.specs.Ranges.{places, without_empty, ranges_from, word_ranges}

pieces-space : (u : ℕ) (us : List ℕ) → is_space u ≡ true → pieces (u ∷ us) ≡ [] ∷ pieces us
pieces-space u us e = ap (λ (b : Bool). if b then [] ∷ pieces us else onto_first u (pieces us)) e

pieces-more : (u : ℕ) (us : List ℕ) → is_space u ≡ false → pieces (u ∷ us) ≡ onto_first u (pieces us)
pieces-more u us e = ap (λ (b : Bool). if b then [] ∷ pieces us else onto_first u (pieces us)) e

skips : (a b : ℕ) (rs : List (ℕ × ℕ)) → b ≤ a → without_empty ((a, b) ∷ rs) ≡ without_empty rs
skips a b rs h = ap (λ (t : Bool). if t then (a, b) ∷ without_empty rs else without_empty rs) (le-ltb a b h)

keeps : (a b : ℕ) (rs : List (ℕ × ℕ)) → a < b → without_empty ((a, b) ∷ rs) ≡ (a, b) ∷ without_empty rs
keeps a b rs h = ap (λ (t : Bool). if t then (a, b) ∷ without_empty rs else without_empty rs) (le-leb (suc a) b h)

-- an empty piece at a place, and the pieces behind it
behind_empty : (at : ℕ) (ps : List (List ℕ)) → without_empty (places at ([] ∷ ps)) ≡ without_empty (places (at + 1) ps)
behind_empty at ps =
    skips at (at + 0) (places (at + 0 + 1) ps) (omega arith)
    ∙ ap (λ (k : ℕ). without_empty (places k ps)) (let e : at + 0 + 1 ≡ at + 1 = omega arith in e)

behind_word : (at end : ℕ) (p : List ℕ) (ps : List (List ℕ)) → at < end → at + length p ≡ end → without_empty (places at (p ∷ ps)) ≡ (at, end) ∷ without_empty (places (end + 1) ps)
behind_word at end p ps h e =
    ap (λ (k : ℕ). without_empty ((at, k) ∷ places (k + 1) ps)) e ∙ keeps at end (places (end + 1) ps) h

pub from_separator : (line : List ℕ) (at : ℕ) → at < length line → is_space (get_or line at 0) ≡ true → ranges_from at line ≡ ranges_from (at + 1) line
unfolding ranges_from
from_separator line at h e =
    ap (λ (ps : List (List ℕ)). without_empty (places at ps)) (at_drop_more pieces line at 0 h ∙ pieces-space (get_or line at 0) (drop (at + 1) line) e)
    ∙ behind_empty at (pieces (drop (at + 1) line))

pub from_end : (line : List ℕ) (at : ℕ) → length line ≤ at → ranges_from at line ≡ []
unfolding ranges_from
from_end line at h =
    ap (λ (ps : List (List ℕ)). without_empty (places at ps)) (at_drop_all pieces line at h) ∙ behind_empty at []

pub from_start : (line : List ℕ) → ranges_from 0 line ≡ word_ranges line
unfolding ranges_from word_ranges
from_start line = refl

-- a stretch without separators, up to one or to the end, and the pieces behind it
record Stretch (us : List ℕ) (n : ℕ) : Type 0 where
  after : List (List ℕ)
  here : pieces us ≡ take n us ∷ after
  there : pieces (drop n us) ≡ [] ∷ after

stretch : (us : List ℕ) (n : ℕ) → n ≤ length us → ((k : ℕ) → k < n → is_space (get_or us k 0) ≡ false) → (n < length us → is_space (get_or us n 0) ≡ true) → Stretch us n
stretch [] zero within before at = record { after = []; here = refl; there = refl }
stretch [] (suc n) within before at = absurd (omega arith)
stretch (u ∷ us) zero within before at =
    record { after = pieces us; here = pieces-space u us (at (omega arith)); there = pieces-space u us (at (omega arith)) }
stretch (u ∷ us) (suc n) within before at =
    let s = stretch us n (omega arith) (λ k h. before (suc k) (omega arith)) (λ h. at (omega arith)) in
    record { after = s.after; here = pieces-more u us (before 0 (omega arith)) ∙ ap (onto_first u) s.here; there = s.there }

-- a word and what follows it, where the pieces of the line from each are known
word_then : (line p : List ℕ) (start end : ℕ) (ps : List (List ℕ)) → start < end → start + length p ≡ end → pieces (drop start line) ≡ p ∷ ps → pieces (drop end line) ≡ [] ∷ ps → ranges_from start line ≡ (start, end) ∷ ranges_from end line
unfolding ranges_from
word_then line p start end ps some size here there =
    ap (λ (qs : List (List ℕ)). without_empty (places start qs)) here
    ∙ behind_word start end p ps some size
    ∙ ap (λ (rs : List (ℕ × ℕ)). (start, end) ∷ rs) (sym (ap (λ (qs : List (List ℕ)). without_empty (places end qs)) there ∙ behind_empty end ps))

stretch_at : (line : List ℕ) (start end n : ℕ) → start + n ≡ end → end ≤ length line → ((k : ℕ) → start ≤ k → k < end → is_space (get_or line k 0) ≡ false) → (end < length line → is_space (get_or line end 0) ≡ true) → Stretch (drop start line) n
stretch_at line start end n back within before at =
    stretch (drop start line) n
    (omega (arith, length-drop start line))
    (λ k h. ap is_space (get_or-drop start line k 0) ∙ before (start + k) (omega arith) (omega arith))
    (λ h. ap is_space (get_or-drop start line n 0 ∙ ap (λ (k : ℕ). get_or line k 0) back) ∙ at (omega (arith, length-drop start line)))

word_of : (line : List ℕ) (start end n : ℕ) → start + n ≡ end → start < end → end ≤ length line → Stretch (drop start line) n → ranges_from start line ≡ (start, end) ∷ ranges_from end line
word_of line start end n back some within s =
    word_then line (take n (drop start line)) start end s.after some
    (omega (arith, length-take-le n (drop start line) (omega (arith, length-drop start line))))
    s.here
    (ap (λ (k : ℕ). pieces (drop k line)) (sym back) ∙ ap pieces (sym (drop-drop n start line)) ∙ s.there)

pub from_word : (line : List ℕ) (start end : ℕ) → start < end → end ≤ length line → ((k : ℕ) → start ≤ k → k < end → is_space (get_or line k 0) ≡ false) → (end < length line → is_space (get_or line end 0) ≡ true) → ranges_from start line ≡ (start, end) ∷ ranges_from end line
from_word line start end some within before at =
    word_of line start end (end - start) (omega arith) some within (stretch_at line start end (end - start) (omega arith) within before at)

-- the pieces of a line from a place on stand one behind another
abbrev Stand : List ℕ → ℕ → List (List ℕ) → Type 0
Stand line at [] = Unit {0}
Stand line at (p ∷ ps) = (take (length p) (drop at line) ≡ p) × Stand line (at + length p + 1) ps

stands-more : (line : List ℕ) (at u : ℕ) (us : List ℕ) (ps : List (List ℕ)) → drop at line ≡ u ∷ us → drop (at + 1) line ≡ us → Stand line (at + 1) ps → Stand line at (onto_first u ps)
stands-more line at u us [] here there s = (ap (take 1) here, tt)
stands-more line at u us (p ∷ ps) here there s = (
  ap (take (suc (length p))) here ∙ ap (λ (l : List ℕ). u ∷ l) (ap (take (length p)) (sym there) ∙ s.0),
  let Behind : ℕ → Type 0 = λ k. Stand line k ps in
      subst Behind (let e : at + 1 + length p + 1 ≡ at + suc (length p) + 1 = omega arith in e) s.1,
)

tail_of : (line : List ℕ) (at u : ℕ) (us : List ℕ) → drop at line ≡ u ∷ us → drop (at + 1) line ≡ us
tail_of line at u us e = sym (drop-drop 1 at line) ∙ ap (drop 1) e

stands : (line us : List ℕ) (at : ℕ) → drop at line ≡ us → Stand line at (pieces us)
stands line [] at e = (refl, tt)
stands line (u ∷ us) at e =
    let rest = tail_of line at u us e in
    let s = stands line us (at + 1) rest in
    let P : List (List ℕ) → Type 0 = λ ps. Stand line at ps in
    (λ (b : Bool) (is : is_space u ≡ b).
    elim b as (λ t. is_space u ≡ t → Stand line at (pieces (u ∷ us))) [
      | true ↦ λ t. subst P (sym (pieces-space u us t))
          (refl, let Behind : ℕ → Type 0 = λ k. Stand line k (pieces us) in subst Behind (let k : at + 1 ≡ at + 0 + 1 = omega arith in k) s)
      | false ↦ λ t. subst P (sym (pieces-more u us t)) (stands-more line at u us (pieces us) e rest s)
    ] is)
    (is_space u) refl

cuts : (line : List ℕ) (at : ℕ) (ps : List (List ℕ)) → Stand line at ps → map (λ (r : ℕ × ℕ). slice_range line r.0 r.1) (without_empty (places at ps)) ≡ filled ps
cuts line at [] s = refl
cuts line at ([] ∷ ps) s =
    ap (map (λ (r : ℕ × ℕ). slice_range line r.0 r.1)) (skips at (at + 0) (places (at + 0 + 1) ps) (omega arith)) ∙ cuts line (at + 0 + 1) ps s.1
cuts line at ((u ∷ p) ∷ ps) s =
    let n = length (u ∷ p) in
    ap (map (λ (r : ℕ × ℕ). slice_range line r.0 r.1)) (keeps at (at + n) (places (at + n + 1) ps) (omega arith))
    ∙ ap (λ (k : ℕ). take k (drop at line) ∷ map (λ (r : ℕ × ℕ). slice_range line r.0 r.1) (without_empty (places (at + n + 1) ps))) (let e : at + n - at ≡ n = omega arith in e)
    ∙ ap (λ (w : List ℕ). w ∷ map (λ (r : ℕ × ℕ). slice_range line r.0 r.1) (without_empty (places (at + n + 1) ps))) s.0
    ∙ ap (λ (ws : List (List ℕ)). (u ∷ p) ∷ ws) (cuts line (at + n + 1) ps s.1)

-- a line cut at its ranges gives its words
pub cut_words : (line : List ℕ) → map (λ (r : ℕ × ℕ). slice_range line r.0 r.1) (word_ranges line) ≡ words line
unfolding word_ranges words
cut_words line = cuts line 0 (pieces line) (stands line line 0 refl)

cut_from : (line : List ℕ) (at : ℕ) → map (λ (r : ℕ × ℕ). slice_range line r.0 r.1) (ranges_from at line) ≡ words (drop at line)
unfolding ranges_from words
cut_from line at = cuts line at (pieces (drop at line)) (stands line (drop at line) at refl)

pub no_word : (line : List ℕ) → ranges_from 0 line ≡ [] → words line ≡ []
no_word line e = sym (cut_from line 0) ∙ ap (map (λ (r : ℕ × ℕ). slice_range line r.0 r.1)) e

pub first_word : (line : List ℕ) (start end : ℕ) → ranges_from 0 line ≡ (start, end) ∷ ranges_from end line → words line ≡ slice_range line start end ∷ words (drop end line)
first_word line start end e =
    sym (cut_from line 0)
    ∙ ap (map (λ (r : ℕ × ℕ). slice_range line r.0 r.1)) e
    ∙ ap (λ (ws : List (List ℕ)). slice_range line start end ∷ ws) (cut_from line end)

-- the first 64 ranges, when there are no more, and when there are that many
pub all_ranges : (line : List ℕ) (out rest : List (ℕ × ℕ)) → out ++ rest ≡ word_ranges line → rest ≡ [] → length out ≤ 64 → out ≡ take 64 (word_ranges line)
all_ranges line out rest e none h =
    sym (take_all 64 out h) ∙ ap (take 64) (sym (append-nil out) ∙ ap (λ (rs : List (ℕ × ℕ)). out ++ rs) (sym none) ∙ e)

pub full_ranges : (line : List ℕ) (out rest : List (ℕ × ℕ)) → out ++ rest ≡ word_ranges line → length out ≡ 64 → out ≡ take 64 (word_ranges line)
full_ranges line out rest e h = sym (take_at out rest 64 h) ∙ ap (take 64) e

pub first_words : (line : List ℕ) (out : List (ℕ × ℕ)) → out ≡ take 64 (word_ranges line) → map (λ (r : ℕ × ℕ). slice_range line r.0 r.1) out ≡ take 64 (words line)
first_words line out e =
    ap (map (λ (r : ℕ × ℕ). slice_range line r.0 r.1)) e
    ∙ sym (take-map (λ (r : ℕ × ℕ). slice_range line r.0 r.1) 64 (word_ranges line))
    ∙ ap (take 64) (cut_words line)
