-- A lens file: the prescription and the unused tags that its lines make. Cited by the reader of lens files and by the outcome of
-- a call. A line is its list of words.
use Rattle.std.specs.Prelude.{ℕ, suc, Bool, false, ◌&&◌, not, List, [], ◌∷◌, ◌++◌, length, take, map, filter, count_by, codes, Option, Some, None, Result, if◌then◌else◌}
use Rattle.arrayvec.specs.ArrayVec.{ArrayVec}
use Rattle.fixdec.specs.Decimal.{Decimal}
use Rattle.lensmodel.specs.Files.Causes.{or_first, ok_unless}
use Rattle.lensmodel.specs.Files.LensFaults.{is_SURF, index_of, is_infinity, is_mirror, is_asphere, is_read, offence}
use Rattle.lensmodel.specs.Files.LensFile.{LensFile}
use Rattle.lensmodel.specs.Files.Records.{Words, same_word, has_tag, word_at, last_where, some_where, is_number, number_or_0, decimal_at, each_words, each_block, first_offence, said_by}
use Rattle.lensmodel.specs.Files.TextLines.{text}
use Rattle.lensmodel.specs.Setup.Values.{zero_decimal}
use Rattle.lensmodel.specs.Setup.WholeFaults.{whole_fault}
use Rattle.lensmodel.specs.declared.fault.ZmxFault.{ZmxFault}
use Rattle.lensmodel.specs.declared.fault.ZmxFault.TheVariants.{Text}
use Rattle.lensmodel.specs.declared.prescription.Prescription.{Prescription}
use Rattle.lensmodel.specs.declared.surface.Surface.{Surface}
use Rattle.lensmodel.specs.declared.surface.SurfaceKind.{SurfaceKind}
use Rattle.lensmodel.specs.declared.surface.SurfaceKind.TheVariants.{Standard, EvenAsph}

-- ---- the last line of a tag, and of a tag and an index, among some lines
abbrev pub last_of : List ℕ → List Words → Option Words
last_of tag lines = last_where (λ l. has_tag tag l) lines

abbrev pub last_of_index : List ℕ → ℕ → List Words → Option Words
last_of_index tag i lines = last_where (λ l. has_tag tag l && is_number i (word_at 1 l)) lines

-- ---- the fields of a surface, each by the line of its tag that stands; without such a line it has the default
abbrev pub kind_in : Option Words → SurfaceKind
kind_in (Some type) = if is_asphere (word_at 1 type) then EvenAsph else Standard
kind_in None = Standard

-- the decimal of the word at k, counted from 0; 0 by default
abbrev pub decimal_in : ℕ → Option Words → Decimal
decimal_in k (Some line) = decimal_at k line
decimal_in k None = zero_decimal

-- a thickness, infinite or a decimal; 0 by default
abbrev pub thickness_in : Option Words → Option Decimal
thickness_in (Some disz) = if is_infinity (word_at 1 disz) then None else Some (decimal_at 1 disz)
thickness_in None = Some zero_decimal

-- a medium: the name of a glass, or a mirror, which has none; air by default
abbrev pub glass_in : Option Words → Option (ArrayVec ℕ)
glass_in (Some glas) = if is_mirror (word_at 1 glas) then None else Some (record { items = word_at 1 glas })
glass_in None = None

abbrev pub mirror_in : Option Words → Bool
mirror_in (Some glas) = is_mirror (word_at 1 glas)
mirror_in None = false

-- a semi-diameter, which is a rim where the second word is a number equal to 1; none by default
abbrev pub semi_in : Option Words → Option Decimal
semi_in (Some diam) = Some (decimal_at 1 diam)
semi_in None = None

abbrev pub rim_in : Option Words → Bool
rim_in (Some diam) = is_number 1 (word_at 2 diam)
rim_in None = false

-- the coefficient a_i: that of the last PARM line of i
abbrev pub coefficient_in : ℕ → List Words → Decimal
coefficient_in i block = decimal_in 2 (last_of_index (codes "PARM") i block)

-- the surface of a SURF line and its block
abbrev pub surface_of : Words → List Words → Surface
surface_of surf block = record {
  kind = kind_in (last_of (codes "TYPE") block);
  curv = decimal_in 1 (last_of (codes "CURV") block);
  conic = decimal_in 1 (last_of (codes "CONI") block);
  thick = thickness_in (last_of (codes "DISZ") block);
  glass = glass_in (last_of (codes "GLAS") block);
  semi = semi_in (last_of (codes "DIAM") block);
  rim = rim_in (last_of (codes "DIAM") block);
  mirror = mirror_in (last_of (codes "GLAS") block);
  a1 = coefficient_in 1 block;
  a2 = coefficient_in 2 block;
  a3 = coefficient_in 3 block;
  a4 = coefficient_in 4 block;
  a5 = coefficient_in 5 block;
  a6 = coefficient_in 6 block;
  a7 = coefficient_in 7 block;
  a8 = coefficient_in 8 block;
}

-- all surfaces, in order
abbrev pub all_surfaces : List Words → List Surface
all_surfaces lines = each_block is_SURF surface_of lines

-- ---- the fields of the lens
-- which surfaces are marked as the stop
abbrev pub is_marked : Words → List Words → Bool
is_marked surf block = some_where (λ l. has_tag (codes "STOP") l) block

-- the numbers of the marked surfaces, which are numbered from j on
abbrev pub marked_from : ℕ → List Bool → List ℕ
marked_from j [] = []
marked_from j (marked ∷ more) = if marked then j ∷ marked_from (suc j) more else marked_from (suc j) more

-- the stop: the one surface that is marked, or, where not exactly one is, the count of the surfaces
abbrev pub one_or : ℕ → List ℕ → ℕ
one_or count (j ∷ []) = j
one_or count js = count

abbrev pub stop_of : List Bool → ℕ
stop_of marks = one_or (length marks) (marked_from 0 marks)

-- the wavelength i in micrometres: that of the last WAVM line of i
abbrev pub wavelength_in : Option Words → Option Decimal
wavelength_in (Some wavm) = Some (decimal_at 2 wavm)
wavelength_in None = None

abbrev pub wavelength : List Words → ℕ → Option Decimal
wavelength lines i = wavelength_in (last_of_index (codes "WAVM") i lines)

-- the wavelengths 1 to 24
abbrev pub wavelengths : List Words → List (Option Decimal)
wavelengths lines =
    map (wavelength lines)
    (1 ∷ 2 ∷ 3 ∷ 4 ∷ 5 ∷ 6 ∷ 7 ∷ 8 ∷ 9 ∷ 10 ∷ 11 ∷ 12 ∷ 13 ∷ 14 ∷ 15 ∷ 16 ∷ 17 ∷ 18 ∷ 19 ∷ 20 ∷ 21 ∷ 22 ∷ 23 ∷ 24 ∷ [])

-- the number of the primary wavelength: that of the last PWAV line, or 1
abbrev pub primary_in : Option Words → ℕ
primary_in (Some pwav) = number_or_0 (index_of (word_at 1 pwav))
primary_in None = 1

abbrev pub lens_of : List Words → Prescription
lens_of lines = record {
  surfaces = record { items = all_surfaces lines };
  stop = stop_of (each_block is_SURF is_marked lines);
  waves = record { items = wavelengths lines };
  primary = primary_in (last_of (codes "PWAV") lines);
}

-- ---- the tags that aren't used
-- the name of a tag: its first 40 units
abbrev pub tag_name : Words → List ℕ
tag_name line = take 40 (word_at 0 line)

-- the names of the lines that have words and aren't used, in order. before are the lines before them
abbrev pub unused_names : List Words → List Words → List (List ℕ)
unused_names before [] = []
unused_names before ([] ∷ more) = unused_names (before ++ [] ∷ []) more
unused_names before ((w ∷ ws) ∷ more) =
    if is_read before (w ∷ ws)
    then unused_names (before ++ (w ∷ ws) ∷ []) more
    else tag_name (w ∷ ws) ∷ unused_names (before ++ (w ∷ ws) ∷ []) more

-- how often a name stands in a list
abbrev pub count_of_name : List ℕ → List (List ℕ) → ℕ
count_of_name name names = count_by (same_word name) names

-- the pairs of other names
abbrev pub without_tag : List ℕ → List (List ℕ × ℕ) → List (List ℕ × ℕ)
without_tag name pairs = filter (λ pair. not (same_word name pair.0)) pairs

-- each name once, in order of first sight, with how often it stands
abbrev pub counted : List (List ℕ) → List (List ℕ × ℕ)
counted [] = []
counted (name ∷ more) = (name, suc (count_of_name name more)) ∷ without_tag name (counted more)

-- ---- the file
abbrev pub file_of : List Words → LensFile
file_of lines = record { lens = lens_of lines; unused = counted (unused_names [] lines) }

-- the fault of the first line that offends, else the first whole fault, else the lens
abbrev pub of_lines : List Words → Result LensFile ZmxFault
of_lines lines = ok_unless (or_first (first_offence offence 1 [] lines) (whole_fault (lens_of lines))) (file_of lines)

unfoldable pub prescription : List ℕ → Result LensFile ZmxFault
prescription bytes = said_by Text (λ lines. of_lines (each_words lines)) (text bytes)
