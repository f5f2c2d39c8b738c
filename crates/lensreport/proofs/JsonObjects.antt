-- The compact text of arrays and objects, of any data.
use Rattle.std.proofs.Common.{◌≡◌, ℕ, false, List, [], ◌∷◌, ◌++◌, refl, sym, ap, ◌∙◌, append_assoc}
use Rattle.lensmodel.specs.Texts.JsonRows as rows
use Rattle.serde_json.specs.Data.{string, array, object, Items, item, no_items, Members, member, no_members}
use Rattle.serde_json.specs.Written.{compact_text, items_text, members_text}

abbrev pub texts_of : Items → List (List ℕ)
texts_of no_items = []
texts_of (item d ds) = compact_text d ∷ texts_of ds

abbrev pub pairs_of : Members → List (List ℕ)
pairs_of no_members = []
pairs_of (member k d ms) = (compact_text (string k) ++ 58 ∷ compact_text d) ∷ pairs_of ms

items_joined : (ds : Items) → items_text false ds ≡ rows.joined (texts_of ds) ++ 93 ∷ []
items_joined no_items = refl
items_joined (item d no_items) = refl
items_joined (item d (item e ds)) =
    ap (λ (rest : List ℕ). compact_text d ++ 44 ∷ rest) (items_joined (item e ds))
    ∙ sym (simp append_assoc)

pub array_text : (ds : Items) → compact_text (array ds) ≡ rows.array (texts_of ds)
array_text ds = ap (λ (rest : List ℕ). 91 ∷ rest) (items_joined ds)

members_joined : (ms : Members) → members_text false ms ≡ rows.joined (pairs_of ms) ++ 125 ∷ []
members_joined no_members = refl
members_joined (member k d no_members) = sym (append_assoc (compact_text (string k)) (58 ∷ compact_text d) (125 ∷ []))
members_joined (member k d (member l e ms)) =
    ap (λ (rest : List ℕ). compact_text (string k) ++ 58 ∷ (compact_text d ++ 44 ∷ rest)) (members_joined (member l e ms))
    ∙ sym (simp append_assoc)

pub object_text : (ms : Members) → compact_text (object ms) ≡ rows.object (pairs_of ms)
object_text ms = ap (λ (rest : List ℕ). 123 ∷ rest) (members_joined ms)
