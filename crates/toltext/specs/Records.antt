-- What one TOL line says, word by word. A line is its list of words.
use Rattle.std.specs.Prelude.{ℕ, is_none, List, [], ◌∷◌, Option}
use Rattle.lensmodel.specs.Files.Causes.{or_first, fault_if, first_fault}
use Rattle.lensmodel.specs.Files.Records.{Words, word_at}
use Rattle.lensmodel.specs.Files.Tolerances.{kind_of, tol_of, tol_faults, has_bad}
use Rattle.lensmodel.specs.declared.fault.TolFault.{TolFault}
use Rattle.lensmodel.specs.declared.fault.TolFault.TheVariants.{Word, BadNumber}
use Rattle.lensmodel.specs.declared.tolerance.Tol.{Tol}

-- the first word behind TOL that is none of its kind
abbrev pub word_fault : ℕ → Words → Option TolFault
word_fault n line = first_fault (fault_if (is_none (kind_of (word_at 1 line))) (Word n) ∷ fault_if (has_bad line) (BadNumber n) ∷ [])

-- the fault of a TOL line with four words, behind other tolerances
abbrev pub line_fault : ℕ → ℕ → List Tol → Words → Option TolFault
line_fault image n before line = or_first (word_fault n line) (first_fault (tol_faults image n before (tol_of line)))
