-- The lines of a file, and their job.
use Rattle.std.proofs.Common.{◌≡◌, ℕ, List, ap}
use Rattle.std.specs.Prelude.{Ok, Err}
use Rattle.lensmodel.specs.Files.Job.{of_lines, job}
use Rattle.lensmodel.specs.Files.Records.{each_record, said_by}
use Rattle.lensmodel.specs.Files.TextLines.{text}
use Rattle.lensmodel.specs.declared.fault.JobFault.TheVariants.{Text}
use Rattle.lensmodel.specs.declared.fault.TextFault.{TextFault}

pub job-lines : (bytes : List ℕ) (ls : List (List ℕ)) → text bytes ≡ Ok ls → job bytes ≡ of_lines (each_record ls)
unfolding job
job-lines bytes ls e = ap (said_by Text (λ lines. of_lines (each_record lines))) e

pub job-fault : (bytes : List ℕ) (f : TextFault) → text bytes ≡ Err f → job bytes ≡ Err (Text f)
unfolding job
job-fault bytes f e = ap (said_by Text (λ lines. of_lines (each_record lines))) e
