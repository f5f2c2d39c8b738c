-- Text: the 16-bit units that bytes stand for, their lines, and the words of a line.
-- Cited by the decoder of files and by the definition of each file.
use Rattle.std.specs.Prelude.{ℕ, ◌+◌, ◌*◌, ◌%◌, Bool, true, false, ◌&&◌, ◌||◌, nat_eq, nat_le, nat_lt, not, List, [], ◌∷◌, length, drop, Option, Some, None, Result, Err, if◌then◌else◌}
use Rattle.lensmodel.specs.Files.Causes.{first_fault, each_from, ok_unless}
use Rattle.lensmodel.specs.declared.fault.TextFault.{TextFault}
use Rattle.lensmodel.specs.declared.fault.TextFault.TheVariants.{OddByte, Surrogate, LongLine}

-- whether a list begins with another
abbrev pub begins : List ℕ → List ℕ → Bool
begins [] xs = true
begins (m ∷ ms) [] = false
begins (m ∷ ms) (x ∷ xs) = nat_eq m x && begins ms xs

-- pairs of bytes, the low one first
abbrev pub pairs : List ℕ → List ℕ
pairs [] = []
pairs (low ∷ []) = []
pairs (low ∷ high ∷ more) = (low + 256 * high) ∷ pairs more

-- whether bytes are UTF-16, little endian: they begin with FF FE
abbrev pub is_wide : List ℕ → Bool
is_wide bytes = begins (255 ∷ 254 ∷ []) bytes

-- the units of bytes: pairs after the mark of UTF-16; each byte after the mark of UTF-8; else each byte
abbrev pub units : List ℕ → List ℕ
units bytes =
    if is_wide bytes then pairs (drop 2 bytes)
    else if begins (239 ∷ 187 ∷ 191 ∷ []) bytes then drop 3 bytes
    else bytes

-- the first line, with a unit put before it
abbrev pub onto_first : ℕ → List (List ℕ) → List (List ℕ)
onto_first u [] = (u ∷ []) ∷ []
onto_first u (l ∷ more) = (u ∷ l) ∷ more

-- the pieces between line feeds; a last line feed opens no further line
unfoldable pub lines : List ℕ → List (List ℕ)
lines [] = []
lines (u ∷ us) = if nat_eq u 10 then [] ∷ lines us else onto_first u (lines us)

-- space, tab and carriage return separate words
abbrev pub is_space : ℕ → Bool
is_space u = nat_eq u 32 || nat_eq u 9 || nat_eq u 13

-- the pieces of a line between separators, empty ones among them
abbrev pub pieces : List ℕ → List (List ℕ)
pieces [] = [] ∷ []
pieces (u ∷ us) = if is_space u then [] ∷ pieces us else onto_first u (pieces us)

abbrev pub without_empty : List (List ℕ) → List (List ℕ)
without_empty [] = []
without_empty ([] ∷ more) = without_empty more
without_empty ((u ∷ us) ∷ more) = (u ∷ us) ∷ without_empty more

-- the words of a line: its longest pieces without a separator
unfoldable pub words : List ℕ → List (List ℕ)
words line = without_empty (pieces line)

-- a unit that begins a surrogate pair, and one that ends it
abbrev pub is_high : ℕ → Bool
is_high u = nat_le 55296 u && nat_le u 56319

abbrev pub is_low : ℕ → Bool
is_low u = nat_le 56320 u && nat_le u 57343

-- whether some surrogate stands without its partner; waiting tells that the unit before began a pair
abbrev pub has_lone : Bool → List ℕ → Bool
has_lone waiting [] = waiting
has_lone true (u ∷ us) = not (is_low u) || has_lone false us
has_lone false (u ∷ us) = is_low u || has_lone (is_high u) us

-- what is wrong with a line: a lone surrogate, else more than 4,096 units
abbrev pub line_fault : ℕ → List ℕ → Option TextFault
line_fault n line =
    if has_lone false line then Some (Surrogate n) else if nat_lt 4096 (length line) then Some (LongLine n) else None

-- the fault of the first line that has one, the lines being counted from n
abbrev pub first_line_fault : ℕ → List (List ℕ) → Option TextFault
first_line_fault n ls = first_fault (each_from line_fault n ls)

-- an odd number of bytes after the mark of UTF-16
abbrev pub is_odd : List ℕ → Bool
is_odd bytes = is_wide bytes && nat_eq (length bytes % 2) 1

-- the lines of a file, or its fault: an odd byte, else that of the first line with a fault
unfoldable pub text : List ℕ → Result (List (List ℕ)) TextFault
text bytes = if is_odd bytes then Err OddByte else ok_unless (first_line_fault 1 (lines (units bytes))) (lines (units bytes))
