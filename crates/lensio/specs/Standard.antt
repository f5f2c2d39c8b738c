-- What contracts see of a disk's files and of a writer.
use Rattle.std.specs.Prelude.{ℕ, Bool, List, [], Option, None, Some}

-- the disk, whether a file is chosen, what is left of it where that is told, and the counts
pub record SystemFiles (D : Type 0) : Type 0 where
  pub disk : D
  pub is_chosen : Bool
  pub left : Option (List ℕ)
  pub faults : ℕ
  pub absences : ℕ
  pub given : ℕ

-- what is left of the chosen file, where that is told; nothing where none is chosen
abbrev pub left_of : {A : Type 0} → (A → Option (List ℕ)) → Option A → Option (List ℕ)
left_of remaining None = Some []
left_of remaining (Some file) = remaining file

-- what a writer took, where that is told, and the faults
pub record SystemBytes : Type 0 where
  pub taken : Option (List ℕ)
  pub faults : ℕ
