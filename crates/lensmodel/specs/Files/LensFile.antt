-- What a lens file says, as contracts see it: cited by Files/Lens.antt and by the reader of lens files.
use Rattle.std.specs.Prelude.{ℕ, List}
use Rattle.lensmodel.specs.declared.prescription.Prescription.{Prescription}

-- the lens, and each tag that isn't used with the number of its lines, in order of first sight. A tag is its first 40 units
pub record LensFile : Type 0 where
  pub lens : Prescription
  pub unused : List (List ℕ × ℕ)
