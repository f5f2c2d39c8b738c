-- A tolerance box: which lines offend, and the box that the lines make. Cited by the reader of boxes and by the outcome of a call.
-- A line is its list of words, and a remark has none; image is the number of the lens's last surface.
use Rattle.std.specs.Prelude.{ℕ, Bool, ◌||◌, nat_eq, nat_le, not, is_none, List, [], ◌∷◌, length, map, filter, codes, Option, Some, None, Result, unwrap_or, if◌then◌else◌}
use Rattle.fixdec.specs.Reading.{decimal_of}
use Rattle.lensmodel.specs.Files.Causes.{fault_if, first_fault, ok_unless}
use Rattle.lensmodel.specs.Files.Records.{Words, same_word, has_tag, word_at, whole_word, number_or_0, decimal_at, each_record, first_offence, said_by}
use Rattle.lensmodel.specs.Files.TextLines.{text}
use Rattle.lensmodel.specs.Setup.Media.{has_tolerance}
use Rattle.lensmodel.specs.Setup.Ranges.{is_not_negative, has_place}
use Rattle.lensmodel.specs.declared.fault.TolFault.{TolFault}
use Rattle.lensmodel.specs.declared.fault.TolFault.TheVariants.{Text, Word, BadNumber, Negative, NoSurface, Twice, TooMany}
use Rattle.lensmodel.specs.declared.tolerance.Tol.{Tol}
use Rattle.lensmodel.specs.declared.tolerance.TolBox.{TolBox}
use Rattle.lensmodel.specs.declared.tolerance.TolKind.{TolKind}
use Rattle.lensmodel.specs.declared.tolerance.TolKind.TheVariants.{Curv, Thic, Indx}

-- ---- TOL kind surface delta
abbrev pub is_TOL : Words → Bool
is_TOL line = has_tag (codes "TOL") line

-- the kind of a word
abbrev pub kind_of : List ℕ → Option TolKind
kind_of w =
    if same_word w (codes "CURV") then Some Curv
    else if same_word w (codes "THIC") then Some Thic
    else if same_word w (codes "INDX") then Some Indx
    else None

-- the number of a surface: a whole number from 0 to 65,535
abbrev pub surface_of : List ℕ → Option ℕ
surface_of w = whole_word 65535 w

-- the tolerance of a TOL line
abbrev pub tol_of : Words → Tol
tol_of line = record {
  kind = unwrap_or (kind_of (word_at 1 line)) Curv;
  surface = number_or_0 (surface_of (word_at 2 line));
  delta = decimal_at 3 line;
}

-- the tolerances of some lines, in order
abbrev pub all_tols : List Words → List Tol
all_tols lines = map tol_of (filter is_TOL lines)

-- ---- which lines offend. n is the line's number, and before are the tolerances before it
-- other words, or another count of them
abbrev pub is_wrong : Words → Bool
is_wrong line = not (is_TOL line) || not (nat_eq (length line) 4) || is_none (kind_of (word_at 1 line))

-- the surface is no number of one, or the deviation no decimal
abbrev pub has_bad : Words → Bool
has_bad line = is_none (surface_of (word_at 2 line)) || is_none (decimal_of (word_at 3 line))

-- a tolerance behind others
abbrev pub tol_faults : ℕ → ℕ → List Tol → Tol → List (Option TolFault)
tol_faults image n before t =
    fault_if (not (is_not_negative t.delta)) (Negative n)
    ∷ fault_if (not (has_place image t.kind t.surface)) (NoSurface n)
    ∷ fault_if (has_tolerance before t.kind t.surface) (Twice n)
    ∷ fault_if (nat_le 32 (length before)) (TooMany n)
    ∷ []

abbrev pub record_fault : ℕ → ℕ → List Tol → Words → Option TolFault
record_fault image n before line = first_fault (fault_if (is_wrong line) (Word n) ∷ fault_if (has_bad line) (BadNumber n) ∷ tol_faults image n before (tol_of line))

-- a line without words is passed over
abbrev pub offence : ℕ → ℕ → List Words → Words → Option TolFault
offence image n before [] = None
offence image n before (w ∷ more) = record_fault image n (all_tols before) (w ∷ more)

-- ---- the box
abbrev pub box_of : List Words → TolBox
box_of lines = record { list = record { items = all_tols lines } }

-- the fault of the first line that offends, else the box
abbrev pub of_lines : ℕ → List Words → Result TolBox TolFault
of_lines image lines = ok_unless (first_offence (offence image) 1 [] lines) (box_of lines)

unfoldable pub tolerance_box : List ℕ → ℕ → Result TolBox TolFault
tolerance_box bytes image = said_by Text (λ lines. of_lines image (each_record lines)) (text bytes)
