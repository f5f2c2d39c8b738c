-- Lines by number, where they are the units of a file and the places where they end.
use Rattle.std.proofs.Common.{◌≡◌, ℕ, zero, suc, ◌+◌, ◌<◌, ◌≤◌, List, [], ◌∷◌, length, get_or, refl, ap, sym, ◌∙◌, subst, arith}
use Rattle.std.specs.Prelude.{slice_range}
use Rattle.std.proofs.lemmas.List.{get_or_read}
use Rattle.lenstext.specs.Cuts.{cut, Fits, start_of}

pub length-cut : (from : ℕ) (us ends : List ℕ) → length (cut from us ends) ≡ length ends
length-cut from us [] = refl
length-cut from us (end ∷ ends) = ap suc (length-cut (suc end) us ends)

start_of-next : (from end : ℕ) (ends : List ℕ) (i : ℕ) → start_of (suc end) ends i ≡ start_of from (end ∷ ends) (suc i)
start_of-next from end ends zero = refl
start_of-next from end ends (suc i) = refl

cut-at : (from : ℕ) (us ends : List ℕ) (i : ℕ) → i < length ends → get_or (cut from us ends) i [] ≡ slice_range us (start_of from ends i) (get_or ends i 0)
cut-at from us [] i h = absurd (omega arith)
cut-at from us (end ∷ ends) zero h = refl
cut-at from us (end ∷ ends) (suc i) h =
    cut-at (suc end) us ends i (omega arith) ∙ ap (λ (k : ℕ). slice_range us k (get_or ends i 0)) (start_of-next from end ends i)

record Bounds (start end room : ℕ) : Type 0 where
  order : start ≤ end
  short : end ≤ start + 4096
  inside : end ≤ room

Fits-at : (from room : ℕ) (ends : List ℕ) (i : ℕ) → Fits from room ends → i < length ends → Bounds (start_of from ends i) (get_or ends i 0) room
Fits-at from room [] i f h = absurd (omega arith)
Fits-at from room (end ∷ ends) zero f h = record { order = f.0; short = f.1; inside = f.2 }
Fits-at from room (end ∷ ends) (suc i) f h =
    let P : ℕ → Type 0 = λ k. Bounds k (get_or ends i 0) room in
    subst P (start_of-next from end ends i) (Fits-at (suc end) room ends i f.3 (omega arith))

-- two places between which a line stands
pub record Found (units : List ℕ) (ls : List (List ℕ)) (i start end : ℕ) : Type 0 where
  pub order : start ≤ end
  pub short : end ≤ start + 4096
  pub inside : end ≤ length units
  pub is : slice_range units start end ≡ get_or ls i []

pub within_ends : (units ends : List ℕ) (ls : List (List ℕ)) (i : ℕ) → cut 0 units ends ≡ ls → i < length ls → i < length ends
within_ends units ends ls i is h = omega (arith, length-cut 0 units ends, ap length is)

pub found : (units ends slice : List ℕ) (ls : List (List ℕ)) (i start end : ℕ) → cut 0 units ends ≡ ls → i < length ls → Fits 0 (length units) ends → slice ≡ ends → start ≡ start_of 0 slice i → end ≡ get_or ends i end → Found units ls i start end
found units ends slice ls i start end is h f same es ee =
    let few = within_ends units ends ls i is h in
    let b = Fits-at 0 (length units) ends i f few in
    let es0 : start ≡ start_of 0 ends i = es ∙ ap (λ (l : List ℕ). start_of 0 l i) same in
    let ee0 : end ≡ get_or ends i 0 = get_or_read ends i end few ee 0 in
    let order = b.order in
    let narrow = b.short in
    let inside = b.inside in
    record {
      order = omega (arith, es0, ee0, order);
      short = omega (arith, es0, ee0, narrow);
      inside = omega (arith, ee0, inside);
      is =
          ap (λ (k : ℕ). slice_range units k end) es0
          ∙ ap (λ (k : ℕ). slice_range units (start_of 0 ends i) k) ee0
          ∙ sym (cut-at 0 units ends i few)
          ∙ ap (λ (l : List (List ℕ)). get_or l i []) is;
    }
