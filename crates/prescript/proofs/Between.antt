-- Whether a surface lies between equal media, test by test.
use Rattle.std.proofs.Common.{◌≡◌, ℕ, suc, ◌-◌, ◌≤◌, Bool, true, false, ap, arith}
use Rattle.std.specs.Prelude.{◌&&◌, not}
use Rattle.lensmodel.specs.Setup.Media.{medium_at, same_medium, has_tolerance, is_between_equal_media}
use Rattle.lensmodel.specs.Setup.Values.{owner, reflects, tolerances}
use Rattle.lensmodel.specs.declared.setup.Setup.{Setup}
use Rattle.lensmodel.specs.declared.tolerance.TolKind.TheVariants.{Indx}

-- a test that goes on, and one that settles it
pub goes_on : (a b v : Bool) → a ≡ true → v ≡ b → v ≡ (a && b)
goes_on true b v h e = e
goes_on false b v h e = cc

pub settles : (a b v : Bool) → a ≡ false → v ≡ a → v ≡ (a && b)
settles true b v h e = cc
settles false b v h e = e

-- a surface that isn't marked as reflecting, and one that is
pub not_false : (a : Bool) → a ≡ false → not a ≡ true
not_false a h = ap not h

pub not_true : (a : Bool) → a ≡ true → not a ≡ false
not_true a h = ap not h

abbrev pub tests : Setup → ℕ → ℕ → Bool
tests s i j =
    not (reflects s j) && same_medium (medium_at s i) (medium_at s j)
    && not (has_tolerance (tolerances s.toler) Indx (owner s i)) && not (has_tolerance (tolerances s.toler) Indx j)

-- the tests at a surface and the one before it
pub between : (s : Setup) (j : ℕ) → 1 ≤ j → is_between_equal_media s j ≡ tests s (j - 1) j
between s j h = let e : suc (j - 1) ≡ j = omega arith in ap (λ (k : ℕ). tests s (j - 1) k) e
