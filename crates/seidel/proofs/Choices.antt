-- Which attempt is chosen, by what was tried.
use Rattle.std.proofs.Common.{◌≡◌, ℕ, Bool, true, false, refl}
use Rattle.std.specs.Prelude.{not}
use Rattle.lensmodel.specs.Paraxial.Losses.{Attempt, chosen}

pub kept_off : (b : Bool) → not b ≡ true → b ≡ false
kept_off true h = cc
kept_off false h = refl

pub kept_on : (b : Bool) → not b ≡ false → b ≡ true
kept_on true h = refl
kept_on false h = cc

module _ {X : Type 0} (f : ℕ → Attempt X) where
  pub chosen_15 : (f 15).by_range ≡ false → (f 15).out ≡ chosen f
  chosen_15 h = rw h refl

  pub chosen_12 : (f 15).by_range ≡ true → (f 12).by_range ≡ false → (f 12).out ≡ chosen f
  chosen_12 h k = rw (h, k) refl

  pub chosen_9 : (f 15).by_range ≡ true → (f 12).by_range ≡ true → (f 9).by_range ≡ false → (f 9).out ≡ chosen f
  chosen_9 h k l = rw (h, k, l) refl

  pub chosen_6 : (f 15).by_range ≡ true → (f 12).by_range ≡ true → (f 9).by_range ≡ true → (f 6).out ≡ chosen f
  chosen_6 h k l = rw (h, k, l) refl
