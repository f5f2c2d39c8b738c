-- The lines of rays, as they are gathered: texts as lists of lines.
use Rattle.std.proofs.Common.{◌≡◌, ℕ, suc, ◌+◌, ◌-◌, Bool, true, false, cond, List, [], ◌∷◌, ◌++◌, length, take, drop, Option, Some, refl, sym, ap, subst, ◌∙◌, append_assoc, append-nil, arith}
use Rattle.std.specs.Prelude.{slice_get}
use Rattle.std.proofs.lemmas.List.{take_all, length-drop}
use Rattle.std.specs.List.{concat}
use Rattle.lensio.specs.Taken.{TakesFront}
use Rattle.lensmodel.specs.Texts.Rows.{place_lines, all_places, last_place, ray_line, ray_lines, rays_lines}
use Rattle.lensmodel.specs.declared.row.Place.{Place}
use Rattle.lensmodel.specs.declared.row.Row.{Row}
use Rattle.lensrun.specs.Gathered.{Gathers}
use Rattle.lensrun.specs.Numbered.{numbered}
use Rattle.lensrun.proofs.Gathering.{front-more, gathers-trans, gathers-front, lines-next, lines-front, lines-end}
use Rattle.lensrun.proofs.Lens.{numbered-get, length-numbered}

-- ---- the places of a row
pub places-are : (scale first : ℕ) (places : List Place) → concat (numbered (place_lines scale) first places) ≡ all_places scale first places
places-are scale first [] = refl
places-are scale first (p ∷ more) = ap (λ l. place_lines scale first p ++ l) (places-are scale (suc first) more)

-- the last place is all that follows the others
pub last-is : (scale first : ℕ) (places : List Place) → all_places scale (length places - 1 + first) (drop (length places - 1) places) ≡ last_place scale first places
last-is scale first [] = refl
last-is scale first (p ∷ []) =
    let none : length (p ∷ []) - 1 ≡ 0 = omega arith in
    let here : 0 + first ≡ first = omega arith in
    rw none (rw here (append-nil (place_lines scale first p)))
last-is scale first (p ∷ q ∷ more) =
    let n : length (p ∷ q ∷ more) - 1 ≡ suc (length more) = omega arith in
    let m : length (q ∷ more) - 1 ≡ length more = omega arith in
    let k : suc (length more) + first ≡ length more + suc first = omega arith in
    rw n (rw k (subst (λ j. all_places scale (j + suc first) (drop j (q ∷ more)) ≡ last_place scale (suc first) (q ∷ more)) m (last-is scale (suc first) (q ∷ more))))

-- ---- rays
pub rays-are : (single : Bool) (first : ℕ) (rows : List Row) → concat (numbered (ray_lines single) first rows) ≡ rays_lines single first rows
rays-are single first [] = refl
rays-are single first (r ∷ more) = ap (λ l. ray_lines single first r ++ l) (rays-are single (suc first) more)

-- what follows the line of a ray, by the first place that is shown
abbrev pub first_of : Bool → List Place → ℕ
first_of single places = cond single 0 (length places - 1)

shown-is : (single : Bool) (i shown : ℕ) (row : Row) → shown ≡ first_of single row.places.items
    → ray_line i row ++ all_places row.scale (shown + 1) (drop shown row.places.items) ≡ ray_lines single i row
shown-is true i shown row e = rw e refl
shown-is false i shown row e = rw e (ap (λ l. ray_line i row ++ l) (last-is row.scale 1 row.places.items))

pub ray-is : (single : Bool) (i shown : ℕ) (row : Row) (line : List ℕ) (slice : List Place) → line ≡ ray_line i row → slice ≡ row.places.items
    → shown ≡ first_of single slice → line ++ all_places row.scale (shown + 1) (drop shown slice) ≡ ray_lines single i row
ray-is single i shown row line slice l e f =
    ap (λ o. o ++ all_places row.scale (shown + 1) (drop shown slice)) l
    ∙ ap (λ ps. ray_line i row ++ all_places row.scale (shown + 1) (drop shown ps)) e
    ∙ shown-is single i shown row (f ∙ ap (first_of single) e)

-- the same by the slice from there on
slice-is : (places : List Place) (k : ℕ) → take (length places - k) (drop k places) ≡ drop k places
slice-is places k = take_all (length places - k) (drop k places) (omega (arith, length-drop k places))

pub ray-slice-is : (single : Bool) (i shown : ℕ) (row : Row) (line : List ℕ) (slice : List Place) → line ≡ ray_line i row → slice ≡ row.places.items
    → shown ≡ first_of single slice → line ++ all_places row.scale (shown + 1) (take (length slice - shown) (drop shown slice)) ≡ ray_lines single i row
ray-slice-is single i shown row line slice l e f =
    ap (λ ps. line ++ all_places row.scale (shown + 1) ps) (slice-is slice shown) ∙ ray-is single i shown row line slice l e f

-- ---- a text of two parts
module _ (a b : Option (List ℕ)) (t u v w : List ℕ) (whole : u ++ v ≡ w) where
  pub first-front : TakesFront a b (t ++ u) → TakesFront a b (t ++ w)
  first-front h = subst (TakesFront a b) (append_assoc t u v ∙ ap (λ l. t ++ l) whole) (front-more a b (t ++ u) v h)

  module _ (p : List ℕ) (g : Gathers a b p (t ++ u)) (c : Option (List ℕ)) where
    pub second-front : TakesFront b c (p ++ v) → TakesFront a c (t ++ w)
    second-front h = subst (TakesFront a c) (append_assoc t u v ∙ ap (λ l. t ++ l) whole) (gathers-front a b c p (t ++ u) v g h)

    pub both : (q : List ℕ) → Gathers b c q (p ++ v) → Gathers a c q (t ++ w)
    both q h = subst (Gathers a c q) (append_assoc t u v ∙ ap (λ l. t ++ l) whole) (gathers-trans a b c p q (t ++ u) v g h)

-- ---- one text after another, of numbered things
module _ {X : Type 0} (text : ℕ → X → List ℕ) (first : ℕ) (xs : List X) (whole : List ℕ) (are : concat (numbered text first xs) ≡ whole) where
  module _ (a b c : Option (List ℕ)) (p q t line : List ℕ) (j : ℕ) (x : X) (at : slice_get xs j ≡ Some x) (printed : line ≡ text (first + j) x)
      (g : Gathers a b p (t ++ concat (take j (numbered text first xs)))) where
    text-at : slice_get (numbered text first xs) j ≡ Some line
    text-at = numbered-get text first j (first + j) xs x at refl ∙ ap Some (sym printed)

    pub text_front : TakesFront b c (p ++ line) → TakesFront a c (t ++ whole)
    text_front h = subst (λ w. TakesFront a c (t ++ w)) are (lines-front a b c p t (numbered text first xs) j line text-at g h)

    pub text_next : Gathers b c q (p ++ line) → Gathers a c q (t ++ concat (take (j + 1) (numbered text first xs)))
    text_next h = lines-next a b c p q t (numbered text first xs) j line text-at g h

  pub texts_end : (a b : Option (List ℕ)) (p t : List ℕ) (j : ℕ) → length xs ≡ j → Gathers a b p (t ++ concat (take j (numbered text first xs)))
      → Gathers a b p (t ++ whole)
  texts_end a b p t j e g =
      subst (λ w. Gathers a b p (t ++ w)) are (lines-end a b p t (numbered text first xs) j (length-numbered text first xs ∙ e) g)
