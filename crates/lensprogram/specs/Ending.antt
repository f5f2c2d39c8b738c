-- How the process ends: its words, and what its code stands for.
use Rattle.std.specs.Prelude.{◌≡◌, ℕ, List, [], map, drop, string_bytes, Result, Ok, Err}
use Rattle.std.specs.Process.{exit_status}
use Rattle.std.specs.Vec.Iter.{into_iter_items}
use Rattle.std.specs.declared.alloc.Global.{Global}
use Rattle.std.specs.declared.io.Error.{Error}
use Rattle.std.specs.declared.process.ExitCode.{ExitCode}
use Rattle.std.specs.declared.string.String.{String}
use Rattle.std.specs.declared.vec.IntoIter.{IntoIter}
use Rattle.lensmodel.specs.declared.status.Status.{Status}
use Rattle.lensmodel.specs.declared.status.Status.TheVariants.{Done, Usage, Refused, Absent, ReadFault, TooLong, WriteFault, Memory}

-- the code of each status: 0 where the report was written; 1 is no status of the program's own
abbrev pub exit_code : Status → ℕ
exit_code Done = 0
exit_code Usage = 2
exit_code Refused = 3
exit_code Absent = 4
exit_code ReadFault = 5
exit_code TooLong = 6
exit_code WriteFault = 7
exit_code Memory = 8

-- the process ends with the code of a status of which P holds
abbrev pub Ends : ExitCode → (Status → Type 0) → Type 0
Ends code P = (status : Status) × (exit_status code ≡ exit_code status) × P status

-- the arguments after the program's name, byte by byte
abbrev pub said_after_name : IntoIter (String Global) Global → List (List ℕ)
said_after_name arguments = map (λ argument. string_bytes argument) (drop 1 (into_iter_items arguments))

-- the words of a call; none where the arguments aren't text
abbrev pub said_in : Result (IntoIter (String Global) Global) Error → List (List ℕ)
said_in (Ok arguments) = said_after_name arguments
said_in (Err error) = []
