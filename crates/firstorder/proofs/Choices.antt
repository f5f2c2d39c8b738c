-- Which scale's values are chosen.
use Rattle.std.proofs.Common.{◌≡◌, ℕ, Bool, true, false, refl}
use Rattle.std.specs.Prelude.{not}
use Rattle.lensmodel.specs.Paraxial.Losses.{Attempt, chosen}

pub kept_off : (b : Bool) → not b ≡ true → b ≡ false
kept_off true h = cc
kept_off false h = refl

pub kept_on : (b : Bool) → not b ≡ false → b ≡ true
kept_on true h = refl
kept_on false h = cc

module _ {X : Type 0} (f : ℕ → Attempt X) where
  pub chosen-15 : (f 15).by_range ≡ false → (f 15).out ≡ chosen f
  chosen-15 h = rw h refl

  pub chosen-12 : (f 15).by_range ≡ true → (f 12).by_range ≡ false → (f 12).out ≡ chosen f
  chosen-12 h i = rw (h, i) refl

  pub chosen-9 : (f 15).by_range ≡ true → (f 12).by_range ≡ true → (f 9).by_range ≡ false → (f 9).out ≡ chosen f
  chosen-9 h i j = rw (h, i, j) refl

  pub chosen-6 : (f 15).by_range ≡ true → (f 12).by_range ≡ true → (f 9).by_range ≡ true → (f 6).out ≡ chosen f
  chosen-6 h i j = rw (h, i, j) refl
