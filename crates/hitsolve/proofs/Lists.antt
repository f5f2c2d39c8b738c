-- A list by its elements, one by one.
use Rattle.std.proofs.Common.{◌≡◌, ℕ, suc, List, [], ◌∷◌, length, refl, arith}
use Rattle.std.specs.Prelude.{slice_get, Some}

-- the elements of a list from place i on
abbrev pub Gets : {A : Type 0} → List A → ℕ → List A → Type 0
Gets xs i [] = Unit {0}
Gets xs i (a ∷ more) = (slice_get xs i ≡ Some a) × Gets xs (suc i) more

behind : {A : Type 0} (x : A) (xs : List A) (i : ℕ) (more : List A) → Gets (x ∷ xs) (suc i) more → Gets xs i more
behind x xs i [] h = tt
behind x xs i (a ∷ more) h = (h.0, behind x xs (suc i) more h.1)

same_rest : {A : Type 0} (x a : A) (xs more : List A) → Some x ≡ Some a → more ≡ xs → (a ∷ more) ≡ (x ∷ xs)
same_rest x a xs more e h = cc

-- as many elements as the list has are the list
pub all_elements : {A : Type 0} (xs more : List A) → length xs ≡ length more → Gets xs 0 more → more ≡ xs
all_elements [] [] n h = refl
all_elements [] (a ∷ more) n h = absurd (omega arith)
all_elements (x ∷ xs) [] n h = absurd (omega arith)
all_elements (x ∷ xs) (a ∷ more) n h = same_rest x a xs more h.0 (all_elements xs more (omega arith) (behind x xs 0 more h.1))
