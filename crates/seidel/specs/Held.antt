-- What the value of a row holds, where the row isn't lost. Cited by proofs.
use Rattle.std.specs.Prelude.{ℕ, List, [], ◌∷◌}
use Rattle.fixdec.specs.Steps.{OnVal}
use Rattle.fixdec.specs.declared.step.Step.{Step}
use Rattle.fixdec.specs.declared.step.Step.TheVariants.{Val, Empty, Lost}
use Rattle.firstorder.specs.Tracks.{OnDone}
use Rattle.lensmodel.specs.Paraxial.Losses.{Worked, done, gone, of_step, to_step, unless_gone, first_gone, row}

pub to_step-holds : {A : Type 0} (w : Worked A) (P : A → Type 0) → OnDone w P → OnVal (to_step w) P
to_step-holds (done a) P h = h
to_step-holds (gone n why) P h = tt

of_step-holds : {A : Type 0} (n : ℕ) (r : Step A) (P : A → Type 0) → OnVal r P → OnDone (of_step n r) P
of_step-holds n (Val a) P h = h
of_step-holds n Empty P h = absurd h
of_step-holds n (Lost why) P h = tt

unless_gone-holds : {A : Type 0} (n : ℕ) (w : Worked A) (r : Step A) (P : A → Type 0) → OnVal r P → OnDone (unless_gone n w r) P
unless_gone-holds n (done a) r P h = of_step-holds n r P h
unless_gone-holds n (gone m why) r P h = tt

-- a row holds what its own answer holds, whatever it needs
pub row-holds : {A : Type 0} (n : ℕ) (needs : List (Worked A)) (r : Step A) (P : A → Type 0) → OnVal r P → OnDone (row n needs r) P
row-holds n [] r P h = of_step-holds n r P h
row-holds n (need ∷ more) r P h = unless_gone-holds n (first_gone need more) r P h
