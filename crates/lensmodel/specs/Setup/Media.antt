-- The media between surfaces. Cited by the equations, the rows and the cross checks.
use Rattle.std.specs.Prelude.{ℕ, suc, ◌-◌, Bool, true, false, ◌&&◌, nat_eq, nat_le, List, [], ◌∷◌, slice_index_or, not, if◌then◌else◌, map}
use lib.Pointwise.{pointwise}
use Rattle.lensmodel.specs.Setup.Values.{owner, reflects, stands_on, tolerances}
use Rattle.lensmodel.specs.declared.glass.Medium.{Medium}
use Rattle.lensmodel.specs.declared.glass.Medium.TheVariants.{Air, Of}
use Rattle.lensmodel.specs.declared.setup.Setup.{Setup}
use Rattle.lensmodel.specs.declared.tolerance.Tol.{Tol}
use Rattle.lensmodel.specs.declared.tolerance.TolKind.{TolKind}
use Rattle.lensmodel.specs.declared.tolerance.TolKind.TheVariants.{Indx}

-- the medium behind surface j
abbrev pub medium_at : Setup → ℕ → Medium
medium_at s j = slice_index_or s.media.items (owner s j) Air

-- a unit with the ASCII letters in upper case
abbrev pub upper : ℕ → ℕ
upper unit = if nat_le 97 unit && nat_le unit 122 then unit - 32 else unit

-- whether two names are equal after ASCII upper-casing
abbrev pub same_name : List ℕ → List ℕ → Bool
same_name a b = pointwise nat_eq (map upper a) (map upper b)

-- whether two media are the same: both air, or glasses of one name
abbrev pub same_medium : Medium → Medium → Bool
same_medium Air Air = true
same_medium (Of g) (Of h) = same_name g.name.items h.name.items
same_medium a b = false

-- whether a tolerance of the kind stands on surface j
abbrev pub has_tolerance : List Tol → TolKind → ℕ → Bool
has_tolerance [] kind j = false
has_tolerance (t ∷ ts) kind j = if stands_on kind j t then true else has_tolerance ts kind j

-- whether surface j + 1 lies between equal media: it doesn't reflect, the media are the same, and no tolerance on index
-- stands on either
abbrev pub equal_media : Setup → ℕ → Bool
equal_media s j =
    not (reflects s (suc j)) && same_medium (medium_at s j) (medium_at s (suc j))
    && not (has_tolerance (tolerances s.toler) Indx (owner s j)) && not (has_tolerance (tolerances s.toler) Indx (suc j))

-- the same by the number of the surface itself, which is from 1 to the one before the image
abbrev pub is_between_equal_media : Setup → ℕ → Bool
is_between_equal_media s j = equal_media s (j - 1)
