-- Worked rows as the code has them.
use Rattle.std.proofs.Common.{◌≡◌, refl}
use Rattle.firstorder.specs.declared.worked.Worked.{Worked as Kept}
use Rattle.firstorder.specs.declared.worked.Worked.TheVariants.{Done, Gone}
use Rattle.lensmodel.specs.Paraxial.Losses.{Worked, done, gone}

abbrev pub worked : {A : Type 0} → Kept A → Worked A
worked (Done a) = done a
worked (Gone n why) = gone n why

abbrev pub kept : {A : Type 0} → Worked A → Kept A
kept (done a) = Done a
kept (gone n why) = Gone n why

pub kept_worked : {A : Type 0} (w : Kept A) → kept (worked w) ≡ w
kept_worked (Done a) = refl
kept_worked (Gone n why) = refl
