-- A call that ends for want of memory.
use Rattle.std.proofs.Common.{◌≡◌, ℕ, List, inr, refl}
use Rattle.std.specs.Prelude.{Option, Some, None}
use Rattle.std.specs.Process.{exit_status}
use Rattle.std.specs.declared.process.ExitCode.{ExitCode}
use Rattle.lensio.specs.Held.{Files}
use Rattle.lensmodel.specs.declared.status.Status.{Status}
use Rattle.lensmodel.specs.declared.status.Status.TheVariants.{Memory}
use Rattle.lensprogram.specs.Ending.{Ends, exit_code}
use Rattle.lensrun.specs.Promise.{IsComplete}

pub ends_memory : (P : Status → Type 0) (code : ExitCode) → exit_status code ≡ exit_code Memory → P Memory → Ends code P
ends_memory P code is h = (Memory, is, h)

pub complete_memory : (held : Option Files) (said : List (List ℕ)) → IsComplete held said Memory
complete_memory None said = tt
complete_memory (Some files) said = λ _. inr refl
