-- How a call ends, and what it writes: the pieces from which each command's answer is made. Cited by each command.
use Rattle.std.specs.Prelude.{ℕ, nat_lt, List, length, Option, Some, None, Result, Ok, Err, if◌then◌else◌}
use Rattle.lensmodel.specs.Texts.FaultText.{absent_line, too_long_line, refused_line, crossed_line}
use Rattle.lensmodel.specs.declared.fault.CrossFault.{CrossFault}
use Rattle.lensmodel.specs.declared.status.FileKind.{FileKind}
use Rattle.lensmodel.specs.declared.status.Status.{Status}
use Rattle.lensmodel.specs.declared.status.Status.TheVariants.{Refused, Absent, TooLong}

-- what is held by the name of a file of each kind
abbrev pub Contents : Type 0
Contents = FileKind → List ℕ → Option (List ℕ)

-- the files that a command names, in the order in which they are read
abbrev pub Named : Type 0
Named = List (FileKind × List ℕ)

pub record Answer : Type 0 where
  pub status : Status
  pub text : List ℕ

abbrev pub answer : Status → List ℕ → Answer
answer status text = record { status = status; text = text }

-- a file: absent, longer than 16,777,216 bytes, or what its bytes give
abbrev pub on_file : FileKind → Option (List ℕ) → (List ℕ → Answer) → Answer
on_file file None go_on = answer Absent (absent_line file)
on_file file (Some bytes) go_on = if nat_lt 16_777_216 (length bytes) then answer TooLong (too_long_line file) else go_on bytes

-- a file that was read: refused by its cause, or what its value gives
abbrev pub on_read : {V F : Type 0} → FileKind → (F → List ℕ) → Result V F → (V → Answer) → Answer
on_read file cause (Err fault) go_on = answer Refused (refused_line file (cause fault))
on_read file cause (Ok v) go_on = go_on v

-- a cross check: refused, or what its value gives
abbrev pub on_checked : {V : Type 0} → Result V CrossFault → (V → Answer) → Answer
on_checked (Err fault) go_on = answer Refused (crossed_line fault)
on_checked (Ok v) go_on = go_on v
