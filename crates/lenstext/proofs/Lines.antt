-- The first line of a list of units, and what is left behind it.
use Rattle.std.proofs.Common.{◌≡◌, ◌≢◌, ℕ, zero, suc, ◌+◌, ◌-◌, ◌<◌, ◌≤◌, Bool, List, [], ◌∷◌, length, get_or, take, drop, refl, ap, sym, ◌∙◌, arith, length-drop, get_or-drop, get_or-take, drop-drop}
use Rattle.std.specs.Prelude.{if◌then◌else◌, slice_range}
use Rattle.std.proofs.lemmas.Bool.{ne_eqb}
use Rattle.lensmodel.specs.Files.TextLines.{lines, onto_first}

lines-more : (u : ℕ) (us : List ℕ) → u ≢ 10 → lines (u ∷ us) ≡ onto_first u (lines us)
unfolding lines
lines-more u us h = ap (λ (b : Bool). if b then [] ∷ lines us else onto_first u (lines us)) (ne_eqb u 10 h)

lines-feed : (u : ℕ) (us : List ℕ) → u ≡ 10 → lines (u ∷ us) ≡ [] ∷ lines us
unfolding lines
lines-feed u us h = ap (λ (v : ℕ). lines (v ∷ us)) h

lines-none : lines [] ≡ []
unfolding lines
lines-none = refl

first_line : (us : List ℕ) (n : ℕ) → 0 < length us → n ≤ length us → ((k : ℕ) → k < n → get_or us k 0 ≢ 10) → (n < length us → get_or us n 0 ≡ 10) → lines us ≡ take n us ∷ lines (drop (suc n) us)
first_line [] n some within before at = absurd (omega arith)
first_line (u ∷ us) zero some within before at = lines-feed u us (at (omega arith))
first_line (u ∷ []) (suc zero) some within before at = lines-more u [] (before 0 (omega arith)) ∙ ap (onto_first u) lines-none ∙ ap (λ (ls : List (List ℕ)). (u ∷ []) ∷ ls) (sym lines-none)
first_line (u ∷ []) (suc (suc n)) some within before at = absurd (omega arith)
first_line (u ∷ v ∷ us) (suc n) some within before at =
    lines-more u (v ∷ us) (before 0 (omega arith))
    ∙ ap (onto_first u) (first_line (v ∷ us) n (omega arith) (omega arith) (λ k h. before (suc k) (omega arith)) (λ h. at (omega arith)))

-- the line that begins at a place, and the lines behind its end
pub line_at : (us : List ℕ) (start end : ℕ) → start < length us → start ≤ end → end ≤ length us → ((k : ℕ) → start ≤ k → k < end → get_or us k 0 ≢ 10) → (end < length us → get_or us end 0 ≡ 10) → lines (drop start us) ≡ slice_range us start end ∷ lines (drop (end + 1) us)
line_at us start end some after within before at =
    let rest = drop start us in
    let n = end - start in
    let l : length rest ≡ length us - start = length-drop start us in
    first_line rest n (omega arith) (omega arith)
    (λ k h e. before (start + k) (omega arith) (omega arith) (sym (get_or-drop start us k 0) ∙ e))
    (λ h. get_or-drop start us n 0 ∙ ap (λ (k : ℕ). get_or us k 0) (let e : start + n ≡ end = omega arith in e) ∙ at (omega arith))
    ∙ ap (λ (ls : List (List ℕ)). take n rest ∷ ls) (ap lines (drop-drop (suc n) start us ∙ ap (λ (k : ℕ). drop k us) (let e : start + suc n ≡ end + 1 = omega arith in e)))

-- what stands in a range stands in the list
pub in_range : (us : List ℕ) (a b k : ℕ) → a ≤ k → k < b → get_or (slice_range us a b) (k - a) 0 ≡ get_or us k 0
in_range us a b k after before =
    get_or-take (b - a) (drop a us) (k - a) 0 (omega arith)
    ∙ get_or-drop a us (k - a) 0
    ∙ ap (λ (i : ℕ). get_or us i 0) (let e : a + (k - a) ≡ k = omega arith in e)
