-- What a choice answers, by what the disk answered.
use Rattle.std.specs.Prelude.{◌≡◌, ◌≢◌, ℕ, Bool, true, false, List, Option, Result, Ok, Err}
use Rattle.std.specs.IoError.{error_kind}
use Rattle.std.specs.declared.io.Error.{Error}
use Rattle.std.specs.declared.io.ErrorKind.TheVariants.{NotFound}
use Rattle.lensio.specs.declared.shelf.Failed.{Failed}

-- found with what is left of the file where it was opened; absent where the path isn't found, and a fault at every other error
abbrev pub IsChoice : {A : Type 0} → (A → Option (List ℕ)) → Result A Error → Result Bool Failed → Option (List ℕ) → Type 0
IsChoice remaining (Ok file) chosen left = (chosen ≡ Ok true) × (left ≡ remaining file)
IsChoice remaining (Err error) (Ok found) left = (found ≡ false) × (error_kind error ≡ NotFound)
IsChoice remaining (Err error) (Err failed) left = error_kind error ≢ NotFound

-- the choice of one of the answers that the disk may give
abbrev pub AnswersBy : {A : Type 0} → (Result A Error → Type 0) → (A → Option (List ℕ)) → Result Bool Failed → Option (List ℕ) → Type 0
AnswersBy {A} may_answer remaining chosen left = (answer : Result A Error) × may_answer answer × IsChoice remaining answer chosen left
