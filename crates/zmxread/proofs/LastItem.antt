-- A write of the last item of a list.
use Rattle.std.specs.Prelude.{◌≡◌, ℕ, suc, ◌-◌, List, [], ◌∷◌, ◌++◌, length, drop, slice_set, slice_index_or, refl}
use Rattle.std.specs.List.{refill}
use Rattle.std.proofs.Common.{ap, sym, ◌∙◌, inl, inr, arith, length-append, ◌≤◌}
use Rattle.std.proofs.lemmas.List.{take-append-le, take_all}
use Rattle.zmxread.proofs.Blocks.{on_last, on_last-append, last_of_list}

set-last : {A : Type 0} (front : List A) (x y : A) → slice_set (front ++ x ∷ []) (length front) y ≡ front ++ y ∷ []
set-last [] x y = refl
set-last (a ∷ front) x y = ap (λ ys. a ∷ ys) (set-last front x y)

index-last : {A : Type 0} (front : List A) (x d : A) → slice_index_or (front ++ x ∷ []) (length front) d ≡ x
index-last [] x d = refl
index-last (a ∷ front) x d = index-last front x d

-- a list of the same length takes the place of another
refill-same : {A : Type 0} (xs ys : List A) → length ys ≡ length xs → refill (length xs) xs ys ≡ ys
refill-same xs ys e =
    let h : length xs ≤ length ys = omega arith in
    let k : length ys ≤ length xs = omega arith in
    take-append-le (length xs) ys (drop (length ys) xs) h ∙ take_all (length xs) ys k

-- the last item of a list that isn't empty, written at its index
pub write-last : {A : Type 0} (xs ys : List A) (count : ℕ) (d next : A) (change : A → A) → ys ≡ xs → count ≡ length xs → (count ≡ 0 → ⊥)
    → next ≡ change (slice_index_or ys (count - 1) d) → refill (length xs) xs (slice_set ys (count - 1) next) ≡ on_last change xs
write-last xs ys count d next change e n some to = elim (last_of_list xs) [
  | inl z ↦ absurd (some (n ∙ ap length z))
  | inr z ↦
      let front = z.0 in
      let last = z.1 in
      let all : ys ≡ front ++ last ∷ [] = e ∙ z.2 in
      let sizes : length xs ≡ suc (length front) = omega (arith, ap length z.2, length-append front (last ∷ [])) in
      let place : count - 1 ≡ length front = omega arith in
      let old_is : slice_index_or ys (count - 1) d ≡ last = (λ i. slice_index_or (all i) (place i) d) ∙ index-last front last d in
      let set_is : slice_set ys (count - 1) next ≡ front ++ next ∷ [] = (λ i. slice_set (all i) (place i) next) ∙ set-last front last next in
      let same : length (front ++ next ∷ []) ≡ length xs = omega (arith, length-append front (next ∷ [])) in
      ap (refill (length xs) xs) set_is ∙ refill-same xs (front ++ next ∷ []) same
      ∙ ap (λ x. front ++ x ∷ []) (to ∙ ap change old_is) ∙ sym (on_last-append change front last) ∙ ap (on_last change) (sym z.2)
]
