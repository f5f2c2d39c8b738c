-- What a shelf gave of a file: its bytes, a value read from them, or what is due in its place. A file's answer is that of its kind
-- by its bytes, refused or not. Cited by the reading of files.
use Rattle.std.specs.Prelude.{◌≡◌, ◌≢◌, ℕ, ◌≤◌, ◌+◌, ◌*◌, ◌⊎◌, List, length, Option, None, Some, IfSome, Result, Ok, Err}
use Rattle.lensio.specs.Count.{Rose, RoseBy}
use Rattle.lensio.specs.Held.{Files}
use Rattle.lensmodel.specs.Call.Answer.{Answer, answer, on_file, on_read}
use Rattle.lensmodel.specs.Texts.FaultText.{read_fault_line}
use Rattle.lensmodel.specs.declared.status.FileKind.{FileKind}
use Rattle.lensmodel.specs.declared.status.Status.{Status}
use Rattle.lensmodel.specs.declared.status.Status.TheVariants.{Absent, ReadFault, TooLong}
use Rattle.lensrun.specs.Due.{due_answer}
use Rattle.lensrun.specs.declared.due.Due.{Due}
use Rattle.lensrun.specs.declared.due.Due.TheVariants.{Nothing}

-- where it is told what is held, this is what the name has
abbrev pub IsFound : Option Files → List ℕ → Option (List ℕ) → Type 0
IsFound held name found = IfSome held (λ files. files name ≡ found)

-- what is due where a file gave nothing to go on with: nothing for want of memory, the line of a failed read, or the answer over
-- what the name has, whatever would follow
abbrev pub Stops : {G : Type 0} → Option Files → FileKind → List ℕ → (Option (List ℕ) → G → Answer) → Due → Type 0
Stops {G} held kind name over due =
    (due ≡ Nothing) ⊎ (due_answer due ≡ answer ReadFault (read_fault_line kind))
    ⊎ ((found : Option (List ℕ)) × IsFound held name found × ((go_on : G) → due_answer due ≡ over found go_on))

-- a file gave no bytes
abbrev pub IsUnread : Option Files → FileKind → List ℕ → Due → Type 0
IsUnread held kind name due = Stops held kind name (λ found (go_on : List ℕ → Answer). on_file kind found go_on) due

module _ {V F : Type 0} (held : Option Files) (kind : FileKind) (name : List ℕ) (cause : F → List ℕ) (reading : List ℕ → Result V F) where
  -- the answer over what the name has, where a value is followed by go_on
  abbrev pub over_file : Option (List ℕ) → (V → Answer) → Answer
  over_file found go_on = on_file kind found (λ bytes. on_read kind cause (reading bytes) go_on)

  -- the file gave the value
  abbrev pub Gives : V → Type 0
  Gives v = (bytes : List ℕ) × IsFound held name (Some bytes) × (length bytes ≤ 16_777_216) × (reading bytes ≡ Ok v)

  -- it gave none
  abbrev pub GivesNone : Due → Type 0
  GivesNone due = Stops held kind name over_file due

-- how a call ended that took files, if it did
abbrev pub ended : {V : Type 0} → Result V Due → Option Status
ended (Ok v) = None
ended (Err due) = Some (due_answer due).status

-- what a shelf counted while at most n files were taken: each end has its cause, and nothing else is counted
pub record IsCounted (end : Option Status) (n : ℕ) (faults faults' absences absences' given given' : ℕ) : Type 0 where
  pub absent : end ≡ Some Absent → Rose absences absences'
  pub read_fault : end ≡ Some ReadFault → Rose faults faults'
  pub too_long : end ≡ Some TooLong → RoseBy 16_777_217 given given'
  pub calm : end ≢ Some ReadFault → faults' ≡ faults
  pub found : end ≢ Some Absent → absences' ≡ absences
  pub within : end ≢ Some TooLong → given' ≤ given + n * 16_777_216
  pub given_rises : given ≤ given'
