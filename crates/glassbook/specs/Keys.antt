-- The keys of a book: the names of its glasses in upper case.
use Rattle.std.specs.Prelude.{◌≡◌, ℕ, Bool, nat_eq, List, [], ◌∷◌, ◌++◌, map, refl}
use Rattle.std.specs.Map.{lookup}
use Rattle.std.proofs.Common.{ap}
use lib.Pointwise.{pointwise}
use Rattle.arrayvec.specs.ArrayVec.{ArrayVec}
use Rattle.lensmodel.specs.Files.Catalogue.{find_glass}
use Rattle.lensmodel.specs.Setup.Media.{upper}
use Rattle.lensmodel.specs.declared.glass.Glass.{Glass}

-- a name in upper case
abbrev pub key_of : List ℕ → ArrayVec ℕ
key_of name = record { items = map upper name }

-- each entry stands under the key of its name
abbrev pub IsKeyed : List (ArrayVec ℕ × Glass) → Type 0
IsKeyed [] = Unit {0}
IsKeyed (e ∷ more) = (e.0 ≡ key_of e.1.name.items) × IsKeyed more

-- the glasses, in order
abbrev pub glasses_of : List (ArrayVec ℕ × Glass) → List Glass
glasses_of entries = map (λ e. e.1) entries

-- whether two keys are equal
abbrev pub same_key : ArrayVec ℕ → ArrayVec ℕ → Bool
same_key a b = pointwise nat_eq a.items b.items

-- a look-up by a name's key is a search of the glasses by the name
pub lookup-keyed : (name : List ℕ) (entries : List (ArrayVec ℕ × Glass)) → IsKeyed entries
    → lookup (same_key (key_of name)) entries ≡ find_glass name (glasses_of entries)
lookup-keyed name [] h = refl
lookup-keyed name (e ∷ more) h = rw (h.0, lookup-keyed name more h.1) refl

pub IsKeyed-append : (entries : List (ArrayVec ℕ × Glass)) (k : ArrayVec ℕ) (g : Glass) → IsKeyed entries → k ≡ key_of g.name.items
    → IsKeyed (entries ++ (k, g) ∷ [])
IsKeyed-append [] k g h e = (e, tt)
IsKeyed-append (x ∷ more) k g h e = (h.0, IsKeyed-append more k g h.1 e)

pub glasses_of-append : (entries : List (ArrayVec ℕ × Glass)) (k : ArrayVec ℕ) (g : Glass)
    → glasses_of (entries ++ (k, g) ∷ []) ≡ glasses_of entries ++ g ∷ []
glasses_of-append [] k g = refl
glasses_of-append (x ∷ more) k g = ap (λ gs. x.1 ∷ gs) (glasses_of-append more k g)
