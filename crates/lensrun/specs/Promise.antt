-- What a call promises: how it ends and what it writes. A shelf and a sink may tell their bytes or not.
use Rattle.std.specs.Prelude.{◌≡◌, ◌≢◌, ℕ, ◌+◌, ◌*◌, ◌⊎◌, List, [], map, Any, Option, None, Some}
use Rattle.lensio.specs.Held.{Files}
use Rattle.lensio.specs.Taken.{Takes, TakesFront}
use Rattle.lensmodel.specs.Texts.FaultText.{absent_line, read_fault_line}
use Rattle.lensmodel.specs.Call.Answer.{Contents, answer}
use Rattle.lensmodel.specs.Call.Inputs.{Inputs, AreInputs}
use Rattle.lensmodel.specs.Call.TopCall.{Command, Means, answer_of, command_answer, files_of, trace, trace_json}
use Rattle.lensmodel.specs.Setup.Values.{image}
use Rattle.lensmodel.specs.declared.job.Job.{Job as AskedRays}
use Rattle.lensmodel.specs.declared.setup.Setup.{Setup}
use Rattle.lensmodel.specs.declared.status.FileKind.{FileKind}
use Rattle.lensmodel.specs.declared.status.FileKind.TheVariants.{Zmx, Agf, Job, Tol, Cert, Script}
use Rattle.lensmodel.specs.declared.status.Status.{Status}
use Rattle.lensmodel.specs.declared.status.Status.TheVariants.{Done, Usage, Refused, Absent, ReadFault, TooLong, WriteFault, Memory}
use Rattle.lensrun.specs.Built.{command_of, outcome}
use Rattle.lensrun.specs.Due.{due_answer, RestsOn}
use Rattle.lensrun.specs.declared.due.Due.{Due}
use Rattle.lensrun.specs.declared.due.Due.TheVariants.{Nothing}

-- what a shelf holds by a name, whichever kind of file is asked for
abbrev pub by_name : Files → Contents
by_name files kind name = files name

-- P of the files that are told; where none are told, P of some files, which may differ from kind to kind under one name
abbrev pub OfFiles : Option Files → (Contents → Type 0) → Type 0
OfFiles (Some files) P = P (by_name files)
OfFiles None P = (files : Contents) × P files

-- the statuses that the words and the files decide, and not the outside
abbrev pub IsDecided : Status → Type 0
IsDecided Done = Unit {0}
IsDecided Usage = Unit {0}
IsDecided Refused = Unit {0}
IsDecided Absent = Unit {0}
IsDecided TooLong = Unit {0}
IsDecided ReadFault = ⊥
IsDecided WriteFault = ⊥
IsDecided Memory = ⊥

-- the call ended as it was due and wrote the text that was due, and that text means what it prints
pub record IsDue (words : List (List ℕ)) (ended : Status) (old new : Option (List ℕ)) (files : Contents) : Type 0 where
  pub status : ended ≡ (outcome files words).status
  pub text : Takes old new (outcome files words).text
  pub means : Means files (command_of words) (outcome files words)

-- the names of the files of a command, in the order in which they are read
abbrev pub names_of : Option Command → List (List ℕ)
names_of None = []
names_of (Some c) = map (λ file. file.1) (files_of c)

-- the same files without that of a kind
abbrev pub without : FileKind → Contents → Contents
without Zmx files Zmx name = None
without Agf files Agf name = None
without Job files Job name = None
without Tol files Tol name = None
without Cert files Cert name = None
without Script files Script name = None
without kind files other name = files other name

-- the text is the line of a failed read of the file of a kind, and the files before it are held and accepted: were this one not
-- held, the call would answer so
pub record IsFaultOf (held : Option Files) (c : Command) (kind : FileKind) (text : List ℕ) : Type 0 where
  pub line : text ≡ read_fault_line kind
  pub reached : OfFiles held (λ files. answer_of (without kind files) c ≡ answer Absent (absent_line kind))

-- the text is the line of a failed read of a file that the command names
abbrev pub IsReadFaultLine : Option Files → Option Command → List ℕ → Type 0
IsReadFaultLine held None text = ⊥
IsReadFaultLine held (Some c) text = Any (λ file. IsFaultOf held c file.0 text) (files_of c)

-- such a line was written
abbrev pub WritesReadFault : Option Files → List (List ℕ) → Option (List ℕ) → Option (List ℕ) → Type 0
WritesReadFault held words old new = (text : List ℕ) × IsReadFaultLine held (command_of words) text × Takes old new text

-- a front of such a line was written
abbrev pub WritesReadFaultFront : Option Files → List (List ℕ) → Option (List ℕ) → Option (List ℕ) → Type 0
WritesReadFaultFront held words old new = (text : List ℕ) × IsReadFaultLine held (command_of words) text × TakesFront old new text

-- a front of the text that was due was written
abbrev pub WritesDueFront : Option Files → List (List ℕ) → Option (List ℕ) → Option (List ℕ) → Type 0
WritesDueFront held words old new = OfFiles held (λ files. TakesFront old new (outcome files words).text)

-- a report whose lines are made of memory one by one
abbrev pub IsStreamedReport : Option Command → Type 0
IsStreamedReport (Some (trace_json i)) = Unit {0}
IsStreamedReport c = ⊥

-- a front of a report was written, which was due
abbrev pub WritesReportFront : Option Files → List (List ℕ) → Option (List ℕ) → Option (List ℕ) → Type 0
WritesReportFront held words old new = OfFiles held (λ files. ((outcome files words).status ≡ Done) × TakesFront old new (outcome files words).text)

-- what was written where memory was wanting: nothing, or a front of such a report
abbrev pub WritesWanting : Option Files → List (List ℕ) → Option (List ℕ) → Option (List ℕ) → Type 0
WritesWanting held words old new = Takes old new [] ⊎ (IsStreamedReport (command_of words) × WritesReportFront held words old new)

-- where the words and the files that are told make a report, the call is done or memory was wanting
abbrev pub IsComplete : Option Files → List (List ℕ) → Status → Type 0
IsComplete None words ended = Unit {0}
IsComplete (Some files) words ended = (outcome (by_name files) words).status ≡ Done → (ended ≡ Done) ⊎ (ended ≡ Memory)

-- the surfaces of the lens of these files were prepared, each from 1 to the image at four scales
abbrev pub PreparesSetup : Contents → Inputs → ℕ → ℕ → Type 0
PreparesSetup files i before now = (s : Setup) × (job : AskedRays) × AreInputs files i s job × (now ≡ before + 4 * image s)

-- those of the lens that a command traces were
abbrev pub PreparesLens : Contents → Option Command → ℕ → ℕ → Type 0
PreparesLens files (Some (trace i)) before now = PreparesSetup files i before now
PreparesLens files (Some (trace_json i)) before now = PreparesSetup files i before now
PreparesLens files c before now = ⊥

-- no surface was prepared, or those of the lens once
abbrev pub Prepares : Option Files → List (List ℕ) → ℕ → ℕ → Type 0
Prepares held words before now = (now ≡ before) ⊎ OfFiles held (λ files. PreparesLens files (command_of words) before now)

-- the statuses of calls of a command that begin no report
abbrev pub BeginsNoReport : Option Command → Status → Type 0
BeginsNoReport c Done = ⊥
BeginsNoReport c WriteFault = ⊥
BeginsNoReport c Memory = ¬ IsStreamedReport c
BeginsNoReport c status = Unit {0}

-- ---- what is gathered for a command
-- the answer is what is due, and a report rests on the command's files
pub record IsAnswered (files : Contents) (c : Option Command) (due : Due) : Type 0 where
  pub answer : due_answer due ≡ command_answer files c
  pub rests : RestsOn files c due

-- what is due is the answer of the command, unless the outside decides
pub record IsDueOf (held : Option Files) (c : Option Command) (due : Due) : Type 0 where
  pub outcome : IsDecided (due_answer due).status → OfFiles held (λ files. IsAnswered files c due)
  pub read_fault : (due_answer due).status ≡ ReadFault → IsReadFaultLine held c (due_answer due).text
  pub no_write : (due_answer due).status ≢ WriteFault
  pub nothing : (due_answer due).status ≡ Memory → due ≡ Nothing
