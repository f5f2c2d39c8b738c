-- What a call is due to write, once its words were taken and its files were read.
use Rattle.std.specs.Prelude.{◌≡◌, ℕ, ◌*◌, ◌⊎◌, List, [], All, Option, Some}
use Rattle.fixdec.specs.Decimal.{Decimal}
use Rattle.lensio.specs.Count.{Rose}
use Rattle.lensio.specs.Taken.{Takes, TakesFront}
use Rattle.lensio.specs.declared.transfer.SlurpFault.{SlurpFault}
use Rattle.lensio.specs.declared.transfer.SlurpFault.TheVariants as slurped
use Rattle.lensmodel.specs.Texts.FaultText.{absent_line, read_fault_line, too_long_line}
use Rattle.lensmodel.specs.Files.Picking.{picked}
use Rattle.lensmodel.specs.Texts.Book.{book_text}
use Rattle.lensmodel.specs.Texts.Index.{index_line}
use Rattle.lensmodel.specs.Texts.Lens.{lens_text}
use Rattle.lensmodel.specs.Call.Answer.{Contents, Answer, answer, on_checked}
use Rattle.lensmodel.specs.Call.First.{FirstHolds, firsts, first_text}
use Rattle.lensmodel.specs.Call.Inputs.{Inputs, AreInputs}
use Rattle.lensmodel.specs.Call.Seidel.{SumsHold, pairs, seidel_text}
use Rattle.lensmodel.specs.Call.TopCall.{Command, trace, trace_json, first, seidel}
use Rattle.lensmodel.specs.Call.Trace.{trace_text, RowsHold, SpotsHold}
use Rattle.lensmodel.specs.Call.TraceJson.{json_text}
use Rattle.lensmodel.specs.Paraxial.FirstOrder.{one_decimal}
use Rattle.lensmodel.specs.Setup.Values.{image, zero_decimal}
use Rattle.lensmodel.specs.Setup.WellFormed.{IsWellFormed, IsInRange}
use Rattle.lensmodel.specs.declared.glass.Glass.{Glass}
use Rattle.lensmodel.specs.declared.job.Job.{Job}
use Rattle.lensmodel.specs.declared.setup.Setup.{Setup}
use Rattle.lensmodel.specs.declared.status.FileKind.{FileKind}
use Rattle.lensmodel.specs.declared.status.Status.{Status}
use Rattle.lensmodel.specs.declared.status.Status.TheVariants.{Done, Absent, ReadFault, TooLong, WriteFault, Memory}
use Rattle.lensrun.specs.declared.due.Due.{Due}
use Rattle.lensrun.specs.declared.due.Due.TheVariants.{Line, Glasses, Lens, Trace, TraceJson, First, Seidel, Nothing}
use Rattle.lensrun.specs.declared.due.Paraxial.{Paraxial}
use Rattle.lensrun.specs.declared.due.Tracing.{Tracing}

-- what is due, as an answer
abbrev pub due_answer : Due → Answer
due_answer (Line status text) = answer status text.bytes
due_answer (Glasses book) = answer Done (book_text book)
due_answer (Lens file) = answer Done (lens_text file.lens file.unused)
due_answer (Trace t) = answer Done (trace_text t.setup t.job)
due_answer (TraceJson t) = answer Done (json_text t.setup t.job)
due_answer (First p) = answer Done (first_text p.setup p.job)
due_answer (Seidel p) = answer Done (seidel_text p.setup p.job)
due_answer Nothing = answer Memory []

-- what is to be traced can be: the setup is well-formed, and the job is in its ranges
pub record CanBeTraced (t : Tracing) : Type 0 where
  pub well : IsWellFormed t.setup
  pub range : IsInRange t.job

abbrev pub IsReady : Due → Type 0
IsReady (Trace t) = CanBeTraced t
IsReady (TraceJson t) = CanBeTraced t
IsReady (First p) = IsWellFormed p.setup
IsReady (Seidel p) = IsWellFormed p.setup
IsReady due = Unit {0}

-- the rows that are due hold, and the spots
pub record TracingHolds (t : Tracing) : Type 0 where
  pub rows : RowsHold t.setup t.job
  pub spots : SpotsHold t.setup t.job

-- the six values that are due hold, those of height 1 and slope 0, and the trails
pub record ValuesHold (s : Setup) (job : Job) : Type 0 where
  pub values : FirstHolds s (record { y = one_decimal; u = zero_decimal })
  pub trails : All (FirstHolds s) (firsts job.asks)

abbrev pub DueHolds : Due → Type 0
DueHolds (Trace t) = TracingHolds t
DueHolds (TraceJson t) = RowsHold t.setup t.job
DueHolds (First p) = ValuesHold p.setup p.job
DueHolds (Seidel p) = All (SumsHold p.setup) (pairs p.job.asks)
DueHolds due = Unit {0}

-- how many surfaces are prepared for what is due: those from 1 to the image, at four scales
abbrev pub preparations : Due → ℕ
preparations (Trace t) = 4 * image t.setup
preparations (TraceJson t) = 4 * image t.setup
preparations due = 0

-- what is due is no report of a trace
abbrev pub IsNoTrace : Due → Type 0
IsNoTrace (Trace t) = ⊥
IsNoTrace (TraceJson t) = ⊥
IsNoTrace due = Unit {0}

-- what is due is the report of a trace of these files, in lines or in JSON
abbrev pub IsTraceOf : (Tracing → Due) → Contents → Inputs → Due → Type 0
IsTraceOf report files i due = (t : Tracing) × (due ≡ report t) × AreInputs files i t.setup t.job

-- what is due is the report of paraxial rays of these files
abbrev pub IsParaxialOf : (Paraxial → Due) → Contents → Inputs → Due → Type 0
IsParaxialOf report files i due = (p : Paraxial) × (due ≡ report p) × AreInputs files i p.setup p.job

-- a trace is due for a command that traces alone, and its report is that of the command's files
abbrev pub RestsOn : Contents → Option Command → Due → Type 0
RestsOn files (Some (trace i)) due = (due_answer due).status ≡ Done → IsTraceOf Trace files i due
RestsOn files (Some (trace_json i)) due = (due_answer due).status ≡ Done → IsTraceOf TraceJson files i due
RestsOn files (Some (first i)) due = (due_answer due).status ≡ Done → IsParaxialOf First files i due
RestsOn files (Some (seidel i)) due = (due_answer due).status ≡ Done → IsParaxialOf Seidel files i due
RestsOn files c due = IsNoTrace due

-- a file that isn't read
abbrev pub unread_answer : FileKind → SlurpFault → Answer
unread_answer file slurped.Absent = answer Absent (absent_line file)
unread_answer file slurped.Fault = answer ReadFault (read_fault_line file)
unread_answer file slurped.TooLong = answer TooLong (too_long_line file)
unread_answer file slurped.Memory = answer Memory []

-- what index answers over a book, of a glass at a wavelength
abbrev pub index_answer : List ℕ → Decimal → List Glass → Answer
index_answer name wave book = on_checked (picked book name wave) (λ p. answer Done (index_line p.glass.name.items wave p.index))

-- its lines are made of memory, one by one
abbrev pub IsStreamed : Due → Type 0
IsStreamed (TraceJson t) = Unit {0}
IsStreamed due = ⊥

-- the call ended with the status that is due and wrote the text, or a front of it: to a sink that failed, or where memory for one of
-- its lines was wanting
abbrev pub Delivers : Due → Status → Option (List ℕ) → Option (List ℕ) → ℕ → ℕ → Type 0
Delivers due ended old new before now =
    ((ended ≡ (due_answer due).status) × Takes old new (due_answer due).text)
    ⊎ ((ended ≡ WriteFault) × Rose before now × TakesFront old new (due_answer due).text)
    ⊎ ((ended ≡ Memory) × IsStreamed due × TakesFront old new (due_answer due).text)
