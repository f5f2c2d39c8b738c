-- Kept preparations as steps. Cited by the prepared surfaces.
use Rattle.fixdec.specs.declared.step.Step.{Step}
use Rattle.fixdec.specs.declared.step.Step.TheVariants as step
use Rattle.lensmodel.specs.Rows.Preparation.{Prepared}
use Rattle.skewtrace.specs.declared.ready.Ready.{Ready}
use Rattle.skewtrace.specs.declared.ready.Ready.TheVariants.{Face, Empty, Lost}

abbrev pub step_of : {A : Type 0} → Ready A → Step (Prepared A)
step_of (Face f) = step.Val f
step_of Empty = step.Empty
step_of (Lost why) = step.Lost why
