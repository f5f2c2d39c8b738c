-- The lines of a file, and their box.
use Rattle.std.proofs.Common.{◌≡◌, ℕ, List, ap}
use Rattle.std.specs.Prelude.{Ok, Err}
use Rattle.lensmodel.specs.Files.Records.{each_record, said_by}
use Rattle.lensmodel.specs.Files.TextLines.{text}
use Rattle.lensmodel.specs.Files.Tolerances.{of_lines, tolerance_box}
use Rattle.lensmodel.specs.declared.fault.TextFault.{TextFault}
use Rattle.lensmodel.specs.declared.fault.TolFault.TheVariants.{Text}

pub box-lines : (bytes : List ℕ) (image : ℕ) (ls : List (List ℕ)) → text bytes ≡ Ok ls → tolerance_box bytes image ≡ of_lines image (each_record ls)
unfolding tolerance_box
box-lines bytes image ls e = ap (said_by Text (λ lines. of_lines image (each_record lines))) e

pub box-fault : (bytes : List ℕ) (image : ℕ) (f : TextFault) → text bytes ≡ Err f → tolerance_box bytes image ≡ Err (Text f)
unfolding tolerance_box
box-fault bytes image f e = ap (said_by Text (λ lines. of_lines image (each_record lines))) e
