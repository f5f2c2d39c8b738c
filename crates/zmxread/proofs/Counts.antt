-- One more line of a tag, in the map that counts them.
use Rattle.std.specs.Prelude.{◌≡◌, ℕ, suc, ◌+◌, true, false, List, [], ◌∷◌, Some, Bool, nat_eq, if◌then◌else◌, refl}
use Rattle.std.specs.Option.{unwrap_or}
use Rattle.std.specs.Map.{lookup}
use Rattle.std.proofs.Common.{ap, ◌∙◌, add-one}
use lib.Pointwise.{pointwise}
use Rattle.arrayvec.specs.ArrayVec.{ArrayVec}
use Rattle.indexmap.specs.IndexMap.{IndexMap, insert_entry}
use Rattle.zmxread.specs.Tags.{pairs_of, with_one_more}

abbrev pub same_name : ArrayVec ℕ → ArrayVec ℕ → Bool
same_name a b = pointwise nat_eq a.items b.items

-- the number of the lines of a tag
abbrev pub lines_of : ArrayVec ℕ → List (ArrayVec ℕ × ℕ) → ℕ
lines_of tag entries = unwrap_or (lookup (same_name tag) entries) 0

pub insert-more : (tag : ArrayVec ℕ) (es : List (ArrayVec ℕ × ℕ))
    → pairs_of (insert_entry same_name es tag (lines_of tag es + 1)) ≡ with_one_more tag.items (pairs_of es)
insert-more tag [] = refl
insert-more tag (e ∷ es) =
    elim (same_name tag e.0) as (λ b. pairs_of (if b then (e.0, unwrap_or (if b then Some e.1 else lookup (same_name tag) es) 0 + 1) ∷ es else e ∷ insert_entry same_name es tag (unwrap_or (if b then Some e.1 else lookup (same_name tag) es) 0 + 1))
    ≡ (if b then (e.0.items, suc e.1) ∷ pairs_of es else (e.0.items, e.1) ∷ with_one_more tag.items (pairs_of es))) [
      | true ↦ rw (add-one e.1) refl
      | false ↦ ap (λ ps. (e.0.items, e.1) ∷ ps) (insert-more tag es)
    ]

-- a map that is another has its pairs
pub pairs-along : {S : Type 0} (n : IndexMap (ArrayVec ℕ) ℕ S) (ps : List (List ℕ × ℕ)) → pairs_of n.entries ≡ ps
    → (m : IndexMap (ArrayVec ℕ) ℕ S) → m ≡ n → pairs_of m.entries ≡ ps
pairs-along n ps h m e = ap (λ (x : IndexMap (ArrayVec ℕ) ℕ _). pairs_of x.entries) e ∙ h
