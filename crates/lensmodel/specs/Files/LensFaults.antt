-- Which lines of a lens file offend: cited by Files/Lens.antt. A line is its list of words; n is its number, and before are the
-- lines before it.
use Rattle.std.specs.Prelude.{ℕ, suc, Bool, ◌&&◌, ◌||◌, nat_eq, nat_lt, not, List, [], ◌∷◌, length, codes, Option, Some, None, if◌then◌else◌}
use Rattle.fixdec.specs.Decimal.{Decimal}
use Rattle.fixdec.specs.Reading.{decimal_of}
use Rattle.lensmodel.specs.Files.Causes.{fault_if, bad_unless, first_fault}
use Rattle.lensmodel.specs.Files.Records.{Words, same_word, has_tag, lacks, word_at, count_where, some_where, whole_word, is_number}
use Rattle.lensmodel.specs.Setup.Ranges.{is_not_negative}
use Rattle.lensmodel.specs.declared.fault.ZmxFault.{ZmxFault}
use Rattle.lensmodel.specs.declared.fault.ZmxFault.TheVariants.{NotSequential, SurfaceOrder, TooManySurfaces, SurfaceType, MissingWord, BadNumber, LongName, ModelGlass}

-- ---- words
-- a line that opens a surface
abbrev pub is_SURF : Words → Bool
is_SURF line = has_tag (codes "SURF") line

-- the number of a surface, of a coefficient or of a wavelength: a whole number from 0 to 65,535
abbrev pub index_of : List ℕ → Option ℕ
index_of w = whole_word 65535 w

-- a semi-diameter: a decimal that isn't below 0
abbrev pub not_negative_if : Option Decimal → Option Decimal
not_negative_if None = None
not_negative_if (Some d) = if is_not_negative d then Some d else None

abbrev pub semi_of : List ℕ → Option Decimal
semi_of w = not_negative_if (decimal_of w)

abbrev pub is_infinity : List ℕ → Bool
is_infinity w = same_word w (codes "INFINITY")

abbrev pub is_mirror : List ℕ → Bool
is_mirror w = same_word w (codes "MIRROR")

abbrev pub is_asphere : List ℕ → Bool
is_asphere w = same_word w (codes "EVENASPH")

abbrev pub is_type : List ℕ → Bool
is_type w = same_word w (codes "STANDARD") || is_asphere w

-- ---- the causes of one line, in their order
-- fewer words behind the tag than the record wants
abbrev pub missing : ℕ → ℕ → Words → Option ZmxFault
missing n wanted line = fault_if (lacks wanted line) (MissingWord n)

-- the word at k, counted from 0, is no decimal, or no number of a surface, coefficient or wavelength
abbrev pub bad_decimal : ℕ → ℕ → Words → Option ZmxFault
bad_decimal n k line = bad_unless (decimal_of (word_at k line)) (BadNumber n (suc k))

abbrev pub bad_index : ℕ → ℕ → Words → Option ZmxFault
bad_index n k line = bad_unless (index_of (word_at k line)) (BadNumber n (suc k))

-- MODE word
abbrev pub MODE_fault : ℕ → Words → Option ZmxFault
MODE_fault n line = first_fault (missing n 1 line ∷ fault_if (same_word (word_at 1 line) (codes "NSC")) (NotSequential n) ∷ [])

-- SURF n behind so many others: n is their count, which is at most 63
abbrev pub SURF_fault : ℕ → ℕ → Words → Option ZmxFault
SURF_fault n count line = first_fault (
    missing n 1 line
    ∷ bad_index n 1 line
    ∷ fault_if (not (is_number count (word_at 1 line))) (SurfaceOrder n)
    ∷ fault_if (nat_eq count 64) (TooManySurfaces n)
    ∷ [])

-- TYPE word
abbrev pub TYPE_fault : ℕ → Words → Option ZmxFault
TYPE_fault n line = first_fault (missing n 1 line ∷ fault_if (not (is_type (word_at 1 line))) (SurfaceType n) ∷ [])

-- CURV c, and CONI k
abbrev pub decimal_fault : ℕ → Words → Option ZmxFault
decimal_fault n line = first_fault (missing n 1 line ∷ bad_decimal n 1 line ∷ [])

-- DISZ d, or DISZ INFINITY
abbrev pub DISZ_fault : ℕ → Words → Option ZmxFault
DISZ_fault n line = first_fault (missing n 1 line ∷ (if is_infinity (word_at 1 line) then None else bad_decimal n 1 line) ∷ [])

-- GLAS name
abbrev pub GLAS_fault : ℕ → Words → Option ZmxFault
GLAS_fault n line = first_fault (
    missing n 1 line
    ∷ fault_if (nat_lt 40 (length (word_at 1 line))) (LongName n)
    ∷ fault_if (same_word (word_at 1 line) (codes "___BLANK")) (ModelGlass n)
    ∷ [])

-- DIAM s, and a flag that need not be there
abbrev pub DIAM_fault : ℕ → Words → Option ZmxFault
DIAM_fault n line = first_fault (missing n 1 line ∷ bad_unless (semi_of (word_at 1 line)) (BadNumber n 2) ∷ [])

-- PARM i v, and WAVM i lambda
abbrev pub indexed_fault : ℕ → Words → Option ZmxFault
indexed_fault n line = first_fault (missing n 2 line ∷ bad_index n 1 line ∷ bad_decimal n 2 line ∷ [])

-- PWAV i
abbrev pub PWAV_fault : ℕ → Words → Option ZmxFault
PWAV_fault n line = first_fault (missing n 1 line ∷ bad_index n 1 line ∷ [])

-- ---- which lines are used
-- the tags of a surface: their lines belong to the surface that a SURF line opened before them
abbrev pub is_of_surface : Words → Bool
is_of_surface line =
    has_tag (codes "TYPE") line || has_tag (codes "CURV") line || has_tag (codes "DISZ") line || has_tag (codes "GLAS") line
    || has_tag (codes "DIAM") line || has_tag (codes "CONI") line || has_tag (codes "PARM") line || has_tag (codes "STOP") line
    || has_tag (codes "COMM") line

-- the tags of the whole lens
abbrev pub is_of_lens : Words → Bool
is_of_lens line = has_tag (codes "MODE") line || is_SURF line || has_tag (codes "WAVM") line || has_tag (codes "PWAV") line

-- whether a line is used: one of the whole lens, or one of a surface behind a SURF line
abbrev pub is_read : List Words → Words → Bool
is_read before line = is_of_lens line || (is_of_surface line && some_where is_SURF before)

-- ---- the offence of a line
-- a line of a surface; STOP and COMM want no words
abbrev pub surface_offence : ℕ → Words → Option ZmxFault
surface_offence n line =
    if has_tag (codes "TYPE") line then TYPE_fault n line
    else if has_tag (codes "CURV") line then decimal_fault n line
    else if has_tag (codes "DISZ") line then DISZ_fault n line
    else if has_tag (codes "GLAS") line then GLAS_fault n line
    else if has_tag (codes "DIAM") line then DIAM_fault n line
    else if has_tag (codes "CONI") line then decimal_fault n line
    else if has_tag (codes "PARM") line then indexed_fault n line
    else None

-- a line of a surface before the first SURF line isn't used, and neither is one of another tag
abbrev pub offence : ℕ → List Words → Words → Option ZmxFault
offence n before line =
    if has_tag (codes "MODE") line then MODE_fault n line
    else if is_SURF line then SURF_fault n (count_where is_SURF before) line
    else if has_tag (codes "WAVM") line then indexed_fault n line
    else if has_tag (codes "PWAV") line then PWAV_fault n line
    else if some_where is_SURF before then surface_offence n line
    else None
