-- A glass catalogue: which lines offend, and the book of glasses that the lines make. A line is its list of words.
-- Cited by the reader of catalogues and by the outcome of a call.
use Rattle.std.specs.Prelude.{ℕ, suc, Bool, true, ◌||◌, nat_eq, nat_le, nat_lt, List, [], ◌∷◌, length, take, drop, codes, Option, Some, None, Result, if◌then◌else◌}
use Rattle.fixdec.specs.Decimal.{Decimal}
use Rattle.fixdec.specs.Reading.{decimal_of}
use Rattle.lensmodel.specs.Files.Causes.{or_first, fault_if, bad_unless, ok_unless}
use Rattle.lensmodel.specs.Files.Records.{Words, has_tag, lacks, word_at, last_where, count_where, whole_word, number_or_0, decimal_at, each_words, block_before, each_block, first_offence as first_of, said_by}
use Rattle.lensmodel.specs.Files.TextLines.{text}
use Rattle.lensmodel.specs.Setup.Media.{same_name}
use Rattle.lensmodel.specs.Setup.Values.{zero_decimal}
use Rattle.lensmodel.specs.declared.fault.AgfFault.{AgfFault}
use Rattle.lensmodel.specs.declared.fault.AgfFault.TheVariants.{Text, OrphanRecord, MissingWord, BadNumber, LongName, TooManyGlasses}
use Rattle.lensmodel.specs.declared.fault.TextFault.{TextFault}
use Rattle.lensmodel.specs.declared.glass.Glass.{Glass}

abbrev pub is_NM : Words → Bool
is_NM line = has_tag (codes "NM") line

abbrev pub is_CD : Words → Bool
is_CD line = has_tag (codes "CD") line

abbrev pub is_LD : Words → Bool
is_LD line = has_tag (codes "LD") line

-- the formula number of a word: a decimal whose value is a whole number from 0 to 99
abbrev pub formula_of : List ℕ → Option ℕ
formula_of w = whole_word 99 w

-- the formula of an NM line
abbrev pub formula_number : Words → ℕ
formula_number nm = number_or_0 (formula_of (word_at 2 nm))

-- whether coefficients are read: of formulas 1 and 2
abbrev pub is_used : ℕ → Bool
is_used formula = nat_eq formula 1 || nat_eq formula 2

-- ---- which lines offend. n is the line's number, and before the lines before it
-- the first word that is no decimal, the words being counted from k
abbrev pub first_bad : ℕ → ℕ → Words → Option AgfFault
first_bad n k [] = None
first_bad n k (w ∷ more) = or_first (bad_unless (decimal_of w) (BadNumber n k)) (first_bad n (suc k) more)

-- NM behind so many others: a missing word, a formula that isn't one, a long name, one glass too many
abbrev pub NM_fault : ℕ → ℕ → Words → Option AgfFault
NM_fault n seen line =
    or_first (fault_if (lacks 2 line) (MissingWord n))
    (or_first (bad_unless (formula_of (word_at 2 line)) (BadNumber n 3))
    (or_first (fault_if (nat_lt 40 (length (word_at 1 line))) (LongName n))
    (fault_if (nat_le 4096 seen) (TooManyGlasses n))))

-- CD of a formula that is used: the first of up to six words that is no decimal
abbrev pub CD_fault : ℕ → Words → Option AgfFault
CD_fault n line = first_bad n 2 (take 6 (drop 1 line))

-- LD of a glass: a missing word, or a bound that is no decimal
abbrev pub LD_fault : ℕ → Words → Option AgfFault
LD_fault n line = or_first (fault_if (lacks 2 line) (MissingWord n)) (first_bad n 2 (take 2 (drop 1 line)))

-- an NM line behind other lines
abbrev pub NM_offence : ℕ → List Words → Words → Option AgfFault
NM_offence n before line = NM_fault n (count_where is_NM before) line

-- a CD line, where an NM line may have come before
abbrev pub CD_offence : ℕ → Option Words → Words → Option AgfFault
CD_offence n None line = Some (OrphanRecord n)
CD_offence n (Some nm) line = if is_used (formula_number nm) then CD_fault n line else None

-- an LD line, where an NM line may have come before
abbrev pub LD_offence : ℕ → Option Words → Words → Option AgfFault
LD_offence n None line = Some (OrphanRecord n)
LD_offence n (Some nm) line = LD_fault n line

-- all other lines aren't used
abbrev pub offence : ℕ → List Words → Words → Option AgfFault
offence n before line =
    if is_NM line then NM_offence n before line
    else if is_CD line then CD_offence n (last_where is_NM before) line
    else if is_LD line then LD_offence n (last_where is_NM before) line
    else None

-- the offence of the first line that offends
abbrev pub first_offence : ℕ → List Words → List Words → Option AgfFault
first_offence n before lines = first_of offence n before lines

-- ---- the glasses
-- the block of a glass: the lines after its NM line and before the next
abbrev pub block : List Words → List Words
block lines = block_before is_NM lines

-- the coefficient of a number, counted from 1, of the last CD line; a missing one is 0
abbrev pub coefficient_in : Bool → Option Words → ℕ → Decimal
coefficient_in true (Some cd) k = decimal_at k cd
coefficient_in used cd k = zero_decimal

-- a bound of the last LD line
abbrev pub bound_in : Option Words → ℕ → Option Decimal
bound_in (Some ld) k = decimal_of (word_at k ld)
bound_in None k = None

-- the glass of an NM line and its block
abbrev pub glass_of : Words → List Words → Glass
glass_of nm lines =
    let used = is_used (formula_number nm) in
    let cd = last_where is_CD lines in
    let ld = last_where is_LD lines in
    record {
      name = record { items = word_at 1 nm };
      formula = formula_number nm;
      c0 = coefficient_in used cd 1;
      c1 = coefficient_in used cd 2;
      c2 = coefficient_in used cd 3;
      c3 = coefficient_in used cd 4;
      c4 = coefficient_in used cd 5;
      c5 = coefficient_in used cd 6;
      low = bound_in ld 1;
      high = bound_in ld 2;
    }

-- all glasses, in order
abbrev pub all_glasses : List Words → List Glass
all_glasses lines = each_block is_NM glass_of lines

-- the first glass of a name, compared after ASCII upper-casing
abbrev pub find_glass : List ℕ → List Glass → Option Glass
find_glass name [] = None
find_glass name (g ∷ more) = if same_name name g.name.items then Some g else find_glass name more

-- the glasses of other names
abbrev pub without_name : List ℕ → List Glass → List Glass
without_name name [] = []
without_name name (g ∷ more) = if same_name name g.name.items then without_name name more else g ∷ without_name name more

-- of glasses with equal names the first
abbrev pub book : List Glass → List Glass
book [] = []
book (g ∷ more) = g ∷ without_name g.name.items (book more)

abbrev pub glasses_unless : Option AgfFault → List Words → Result (List Glass) AgfFault
glasses_unless fault lines = ok_unless fault (book (all_glasses lines))

-- the book of the lines, or the fault of the first that offends
abbrev pub of_lines : List Words → Result (List Glass) AgfFault
of_lines lines = glasses_unless (first_offence 1 [] lines) lines

-- the book of a file, or its fault
abbrev pub of_text : Result (List (List ℕ)) TextFault → Result (List Glass) AgfFault
of_text lines = said_by Text (λ ls. of_lines (each_words ls)) lines

unfoldable pub catalogue : List ℕ → Result (List Glass) AgfFault
catalogue bytes = of_text (text bytes)
