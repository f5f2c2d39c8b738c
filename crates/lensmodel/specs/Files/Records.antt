-- The lines of a file as records: each is its list of words, and begins with its tag. Cited by the definitions of each file.
use Rattle.std.specs.Prelude.{ℕ, zero, suc, ℤ, pos, negsuc, ◌*ℤ◌, ◌^◌, Bool, false, ◌||◌, nat_eq, nat_le, nat_lt, List, [], ◌∷◌, ◌++◌, length, Option, Some, None, Result, Ok, Err, if◌then◌else◌}
use lib.Pointwise.{pointwise}
use Rattle.fixdec.specs.Decimal.{Decimal}
use Rattle.fixdec.specs.Reading.{decimal_of}
use Rattle.lensmodel.specs.Files.Causes.{or_first}
use Rattle.lensmodel.specs.Files.TextLines.{words}
use Rattle.lensmodel.specs.Setup.Values.{zero_decimal}
use Rattle.lensmodel.specs.declared.fault.TextFault.{TextFault}

-- the words of a line
abbrev pub Words : Type 0
Words = List (List ℕ)

-- whether two words are the same
abbrev pub same_word : List ℕ → List ℕ → Bool
same_word a b = pointwise nat_eq a b

-- whether a line begins with a tag
abbrev pub has_tag : List ℕ → Words → Bool
has_tag tag [] = false
has_tag tag (w ∷ more) = same_word w tag

-- whether a line has fewer words behind its tag than wanted
abbrev pub lacks : ℕ → Words → Bool
lacks wanted line = nat_lt (length line) (suc wanted)

-- the word of a number, counted from 0, or no unit at all where the line has fewer
abbrev pub word_at : ℕ → Words → List ℕ
word_at n [] = []
word_at zero (w ∷ more) = w
word_at (suc n) (w ∷ more) = word_at n more

-- the last line that passes a test
abbrev pub last_where : (Words → Bool) → List Words → Option Words
last_where is [] = None
last_where is (l ∷ more) = or_first (last_where is more) (if is l then Some l else None)

-- how many lines pass a test
abbrev pub count_where : (Words → Bool) → List Words → ℕ
count_where is [] = 0
count_where is (l ∷ more) = if is l then suc (count_where is more) else count_where is more

-- whether some line passes a test
abbrev pub some_where : (Words → Bool) → List Words → Bool
some_where is lines = nat_lt 0 (count_where is lines)

-- ---- numbers
-- a decimal whose value is whole
abbrev pub whole_at : ℤ → ℤ → Option ℤ
whole_at mant (pos k) = Some (mant *ℤ pos (10 ^ k))
whole_at mant (negsuc k) = None

-- the whole number that a decimal stands for, where it is one
abbrev pub whole_decimal : Option Decimal → Option ℤ
whole_decimal None = None
whole_decimal (Some d) = whole_at d.mant d.exp

-- a whole number from 0 to the most
abbrev pub number_to : ℕ → Option ℤ → Option ℕ
number_to most (Some (pos n)) = if nat_le n most then Some n else None
number_to most (Some (negsuc n)) = None
number_to most None = None

-- the number of a word: a decimal whose value is a whole number from 0 to the most
abbrev pub whole_word : ℕ → List ℕ → Option ℕ
whole_word most word = number_to most (whole_decimal (decimal_of word))

-- whether a word is a decimal equal to a number
abbrev pub is_whole_number : ℕ → Option ℤ → Bool
is_whole_number n (Some (pos k)) = nat_eq k n
is_whole_number n (Some (negsuc k)) = false
is_whole_number n None = false

abbrev pub is_number : ℕ → List ℕ → Bool
is_number n word = is_whole_number n (whole_decimal (decimal_of word))

-- a number, or 0 where there is none
abbrev pub number_or_0 : Option ℕ → ℕ
number_or_0 (Some n) = n
number_or_0 None = 0

-- a decimal, or 0 where there is none
abbrev pub decimal_or_0 : Option Decimal → Decimal
decimal_or_0 (Some d) = d
decimal_or_0 None = zero_decimal

-- the decimal of the word of a number, counted from 0, or 0 where there is none
abbrev pub decimal_at : ℕ → Words → Decimal
decimal_at n line = decimal_or_0 (decimal_of (word_at n line))

-- ---- lines
-- the words of each line
abbrev pub each_words : List (List ℕ) → List Words
each_words [] = []
each_words (l ∷ more) = words l ∷ each_words more

-- a remark is a line whose first unit is ! or #
abbrev pub is_remark : List ℕ → Bool
is_remark [] = false
is_remark (u ∷ us) = nat_eq u 33 || nat_eq u 35

-- the words of a line; a remark has none
abbrev pub record_words : List ℕ → Words
record_words line = if is_remark line then [] else words line

-- the words of each line, in a file that has remarks
abbrev pub each_record : List (List ℕ) → List Words
each_record [] = []
each_record (l ∷ more) = record_words l ∷ each_record more

-- the lines before the first that passes a test
abbrev pub block_before : (Words → Bool) → List Words → List Words
block_before is [] = []
block_before is (l ∷ more) = if is l then [] else l ∷ block_before is more

-- what is made of each line that passes a test, with its block: the lines behind it and before the next that passes it
abbrev pub each_block : {A : Type 0} → (Words → Bool) → (Words → List Words → A) → List Words → List A
each_block is make [] = []
each_block is make (l ∷ more) = if is l then make l (block_before is more) ∷ each_block is make more else each_block is make more

-- the fault of the first line that has one, where a line may offend by what stands before it. n is the number of the first
-- line, and before are the lines before it
abbrev pub first_offence : {F : Type 0} → (ℕ → List Words → Words → Option F) → ℕ → List Words → List Words → Option F
first_offence offence n before [] = None
first_offence offence n before (l ∷ more) = or_first (offence n before l) (first_offence offence (suc n) (before ++ l ∷ []) more)

-- what a file says: the fault of its text, which comes before all others, or what its lines give
abbrev pub said_by : {A F : Type 0} → (TextFault → F) → (List (List ℕ) → Result A F) → Result (List (List ℕ)) TextFault → Result A F
said_by refused of_lines (Ok lines) = of_lines lines
said_by refused of_lines (Err fault) = Err (refused fault)
