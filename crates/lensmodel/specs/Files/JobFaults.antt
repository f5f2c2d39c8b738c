-- Which lines of a job offend: cited by Files/Job.antt. A line is its list of words, and a remark has none; n is its number, and
-- before are the lines before it.
use Rattle.std.specs.Prelude.{ℕ, suc, ℤ, pos, negsuc, Bool, false, nat_eq, not, is_none, List, [], ◌∷◌, length, drop, codes, Option, Some, None, if◌then◌else◌}
use Rattle.std.specs.List.{list_any}
use Rattle.fixdec.specs.Reading.{decimal_of}
use Rattle.lensmodel.specs.Files.Causes.{fault_if, first_fault}
use Rattle.lensmodel.specs.Files.Records.{Words, has_tag, word_at, some_where, whole_decimal, decimal_at}
use Rattle.lensmodel.specs.Setup.Ranges.{is_positive, is_not_negative, is_residual, is_width, is_fan, is_grid}
use Rattle.lensmodel.specs.declared.fault.JobFault.{JobFault}
use Rattle.lensmodel.specs.declared.fault.JobFault.TheVariants.{Word, BadNumber, Missing, Range}

abbrev pub is_WAVE : Words → Bool
is_WAVE line = has_tag (codes "WAVE") line

abbrev pub is_RES : Words → Bool
is_RES line = has_tag (codes "RES") line

abbrev pub is_WIDTH : Words → Bool
is_WIDTH line = has_tag (codes "WIDTH") line

abbrev pub is_PUPIL : Words → Bool
is_PUPIL line = has_tag (codes "PUPIL") line

-- the whole number, of any sign, that the word at k is
abbrev pub whole_number : ℕ → Words → Option ℤ
whole_number k line = whole_decimal (decimal_of (word_at k line))

-- ---- the causes of one line, in their order
-- the words behind the first are more or fewer than wanted
abbrev pub wrong_count : ℕ → ℕ → Words → Option JobFault
wrong_count n wanted line = fault_if (not (nat_eq (length line) (suc wanted))) (Word n)

-- a line of the kind came before
abbrev pub second : ℕ → (Words → Bool) → List Words → Option JobFault
second n is before = fault_if (some_where is before) (Word n)

-- one of the words behind the first is no decimal
abbrev pub has_bad : Words → Bool
has_bad words = list_any (λ w. is_none (decimal_of w)) words

abbrev pub bad_decimals : ℕ → Words → Option JobFault
bad_decimals n line = fault_if (has_bad (drop 1 line)) (BadNumber n)

-- the word at k is no whole number
abbrev pub bad_whole : ℕ → ℕ → Words → Option JobFault
bad_whole n k line = fault_if (is_none (whole_number k line)) (BadNumber n)

-- no PUPIL line came before
abbrev pub no_pupil : ℕ → List Words → Option JobFault
no_pupil n before = fault_if (not (some_where is_PUPIL before)) (Missing n)

-- a range is left; a whole number below 0 is in none
abbrev pub out_of_range : ℕ → Bool → Option JobFault
out_of_range n within = fault_if (not within) (Range n)

abbrev pub is_within : (ℕ → Bool) → Option ℤ → Bool
is_within range (Some (pos k)) = range k
is_within range (Some (negsuc k)) = false
is_within range None = false

-- ---- each kind of line
-- WAVE lambda
abbrev pub WAVE_offence : ℕ → List Words → Words → Option JobFault
WAVE_offence n before line = first_fault (wrong_count n 1 line ∷ second n is_WAVE before ∷ bad_decimals n line ∷ out_of_range n (is_positive (decimal_at 1 line)) ∷ [])

-- RES r
abbrev pub RES_offence : ℕ → List Words → Words → Option JobFault
RES_offence n before line = first_fault (
    wrong_count n 1 line
    ∷ second n is_RES before
    ∷ bad_whole n 1 line
    ∷ out_of_range n (is_within is_residual (whole_number 1 line))
    ∷ [])

-- WIDTH w
abbrev pub WIDTH_offence : ℕ → List Words → Words → Option JobFault
WIDTH_offence n before line = first_fault (wrong_count n 1 line ∷ second n is_WIDTH before ∷ bad_decimals n line ∷ out_of_range n (is_width (decimal_at 1 line)) ∷ [])

-- PUPIL z r
abbrev pub PUPIL_offence : ℕ → Words → Option JobFault
PUPIL_offence n line = first_fault (wrong_count n 2 line ∷ bad_decimals n line ∷ out_of_range n (is_not_negative (decimal_at 2 line)) ∷ [])

-- RAY x y p q, FIRST y u, SEIDEL y u yb ub: so many decimals
abbrev pub decimals_offence : ℕ → ℕ → Words → Option JobFault
decimals_offence n wanted line = first_fault (wrong_count n wanted line ∷ bad_decimals n line ∷ [])

-- AIM p q px py
abbrev pub AIM_offence : ℕ → List Words → Words → Option JobFault
AIM_offence n before line = first_fault (wrong_count n 4 line ∷ bad_decimals n line ∷ no_pupil n before ∷ [])

-- FAN p q n, SPOT p q n: n in its range
abbrev pub spread_offence : ℕ → (ℕ → Bool) → List Words → Words → Option JobFault
spread_offence n range before line = first_fault (
    wrong_count n 3 line
    ∷ bad_decimals n line
    ∷ bad_whole n 3 line
    ∷ no_pupil n before
    ∷ out_of_range n (is_within range (whole_number 3 line))
    ∷ [])

-- a line with words, by its first; any other first word is a fault
abbrev pub record_offence : ℕ → List Words → Words → Option JobFault
record_offence n before line =
    if is_WAVE line then WAVE_offence n before line
    else if is_RES line then RES_offence n before line
    else if is_WIDTH line then WIDTH_offence n before line
    else if has_tag (codes "RAY") line then decimals_offence n 4 line
    else if is_PUPIL line then PUPIL_offence n line
    else if has_tag (codes "AIM") line then AIM_offence n before line
    else if has_tag (codes "FAN") line then spread_offence n is_fan before line
    else if has_tag (codes "SPOT") line then spread_offence n is_grid before line
    else if has_tag (codes "FIRST") line then decimals_offence n 2 line
    else if has_tag (codes "SEIDEL") line then decimals_offence n 4 line
    else Some (Word n)

-- a line without words is passed over
abbrev pub offence : ℕ → List Words → Words → Option JobFault
offence n before [] = None
offence n before (w ∷ more) = record_offence n before (w ∷ more)
