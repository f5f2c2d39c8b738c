-- What the files of a lens, a catalogue and a job make: a setup and a job, or what is due in their place.
-- Cited by the joining of files.
use Rattle.std.specs.Prelude.{◌≡◌, ◌≢◌, ℕ, List, Any, Option, None, Some}
use Rattle.lensio.specs.Held.{Files}
use Rattle.lensmodel.specs.Call.Answer.{Contents, Answer, answer}
use Rattle.lensmodel.specs.Call.Inputs.{Inputs, AreInputs, inputs_named, on_inputs}
use Rattle.lensmodel.specs.Files.Tolerances.{tolerance_box}
use Rattle.lensmodel.specs.Texts.FaultText.{absent_line, read_fault_line, tol_cause}
use Rattle.lensmodel.specs.declared.job.Job.{Job}
use Rattle.lensmodel.specs.declared.setup.Setup.{Setup}
use Rattle.lensmodel.specs.declared.status.FileKind.{FileKind}
use Rattle.lensmodel.specs.declared.status.FileKind.TheVariants.{Tol}
use Rattle.lensmodel.specs.declared.status.Status.TheVariants.{Done, Absent, ReadFault, WriteFault, Memory}
use Rattle.lensmodel.specs.declared.tolerance.TolBox.{TolBox}
use Rattle.lensrun.specs.Due.{due_answer}
use Rattle.lensrun.specs.Found.{Gives, GivesNone}
use Rattle.lensrun.specs.Promise.{IsDecided, OfFiles, without}
use Rattle.lensrun.specs.declared.due.Due.{Due}
use Rattle.lensrun.specs.declared.due.Due.TheVariants.{Nothing}

-- the box of a file for a lens whose last surface has the number image, where one is named
abbrev pub GivesBox : Option Files → ℕ → Option (List ℕ) → Option TolBox → Type 0
GivesBox held image None toler = toler ≡ None
GivesBox held image (Some name) toler = (box : TolBox) × (toler ≡ Some box) × Gives held Tol name tol_cause (λ bytes. tolerance_box bytes image) box

abbrev pub GivesNoBox : Option Files → ℕ → Option (List ℕ) → Due → Type 0
GivesNoBox held image None due = ⊥
GivesNoBox held image (Some name) due = GivesNone held Tol name tol_cause (λ bytes. tolerance_box bytes image) due

-- the files make the setup and the job, and an answer over them goes on with these
pub record MakesSetup (files : Contents) (i : Inputs) (s : Setup) (job : Job) : Type 0 where
  pub inputs : AreInputs files i s job
  pub answer : (go_on : Setup → Job → Answer) → on_inputs files i go_on ≡ go_on s job

-- the line of a failed read of the file of a kind, which the answer over the files comes to
pub record IsInputFault (held : Option Files) (i : Inputs) (kind : FileKind) (text : List ℕ) : Type 0 where
  pub line : text ≡ read_fault_line kind
  pub reached : OfFiles held (λ files. (go_on : Setup → Job → Answer) → on_inputs (without kind files) i go_on ≡ answer Absent (absent_line kind))

-- they make none, and this is due: the answer over them whatever would follow, unless the outside decides
pub record MakesNone (held : Option Files) (i : Inputs) (due : Due) : Type 0 where
  pub outcome : IsDecided (due_answer due).status
      → OfFiles held (λ files. (go_on : Setup → Job → Answer) → due_answer due ≡ on_inputs files i go_on)
  pub read_fault : (due_answer due).status ≡ ReadFault → Any (λ file. IsInputFault held i file.0 (due_answer due).text) (inputs_named i)
  pub no_report : (due_answer due).status ≢ Done
  pub no_write : (due_answer due).status ≢ WriteFault
  pub nothing : (due_answer due).status ≡ Memory → due ≡ Nothing
