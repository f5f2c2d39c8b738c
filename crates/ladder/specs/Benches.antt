-- Whether a bench is filled for a setup. Cited by the bench.
use Rattle.std.specs.Prelude.{◌≡◌, ℕ, Option, Some, None}
use Rattle.fixdec.specs.Form.{linear_operations}
use Rattle.fixdec.specs.IntervalOperations.{operations}
use Rattle.fixdec.specs.Operations.{Operations}
use Rattle.ladder.specs.Kinds.{Kinds}
use Rattle.ladder.specs.declared.rungs.Rungs.{Rungs}
use Rattle.lensmodel.specs.declared.setup.Setup.{Setup}
use Rattle.lensmodel.specs.declared.tolerance.TolBox.{TolBox}
use Rattle.skewtrace.specs.Filled.{all_faces}

-- the preparations at each scale are those of all surfaces, by an arithmetic that has its operations at each scale
pub record AreFilled {A : Type 0} (o : ℕ → Operations A) (s : Setup) (r : Rungs A A A A) : Type 0 where
  pub six : r.six.list ≡ all_faces (o 6) 6 s
  pub nine : r.nine.list ≡ all_faces (o 9) 9 s
  pub twelve : r.twelve.list ≡ all_faces (o 12) 12 s
  pub fifteen : r.fifteen.list ≡ all_faces (o 15) 15 s

-- those in intervals without a box, and those in forms with one, even an empty one
abbrev pub AreFilledWith : Option TolBox → Setup → Kinds → Type 0
AreFilledWith None s b = AreFilled operations s b.intervals
AreFilledWith (Some box) s b = AreFilled linear_operations s b.forms

abbrev pub IsFilledFor : Setup → Kinds → Type 0
IsFilledFor s b = AreFilledWith s.toler s b

-- the kind that isn't needed stays as it was
abbrev pub IsOtherKeptWith : Option TolBox → Kinds → Kinds → Type 0
IsOtherKeptWith None b d = d.forms ≡ b.forms
IsOtherKeptWith (Some box) b d = d.intervals ≡ b.intervals

abbrev pub IsOtherKept : Setup → Kinds → Kinds → Type 0
IsOtherKept s b d = IsOtherKeptWith s.toler b d
