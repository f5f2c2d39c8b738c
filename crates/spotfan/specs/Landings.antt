-- Where a row lands: in its last place.
use Rattle.std.proofs.Common.{◌≡◌, ℕ, suc, ◌-◌, List, [], ◌∷◌, length, refl, arith}
use Rattle.std.proofs.lemmas.Option.{slice_get-get_or}
use Rattle.std.specs.Prelude.{Some, None, slice_get}
use Rattle.lensmodel.specs.Rows.Spot.{last_place, no_place}
use Rattle.lensmodel.specs.declared.row.Place.{Place}

pub last-is : (scale : ℕ) (ps : List Place) (p : Place) → slice_get ps (length ps - 1) ≡ Some p
    → last_place scale ps ≡ record { scale = scale; x = p.x; y = p.y }
last-is scale [] p e = cc
last-is scale (q ∷ []) p e = let same : q ≡ p = cc in rw same refl
last-is scale (q ∷ r ∷ more) p e =
    let here : length (q ∷ r ∷ more) - 1 ≡ suc (length more) = omega arith in
    let next : length (r ∷ more) - 1 ≡ length more = omega arith in
    last-is scale (r ∷ more) p (rw next (rw here at e))

pub last-none : (scale : ℕ) (ps : List Place) → slice_get ps (length ps - 1) ≡ None
    → last_place scale ps ≡ record { scale = scale; x = no_place; y = no_place }
last-none scale [] e = refl
last-none scale (q ∷ more) e =
    let there = slice_get-get_or (q ∷ more) (length (q ∷ more) - 1) q (omega arith) in
    cc

pub last-scale : (scale : ℕ) (ps : List Place) → (last_place scale ps).scale ≡ scale
last-scale scale [] = refl
last-scale scale (q ∷ []) = refl
last-scale scale (q ∷ r ∷ more) = last-scale scale (r ∷ more)
