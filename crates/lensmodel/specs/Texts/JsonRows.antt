-- The line of a ray as a JSON object: compact, its keys in the order of their bytes. Cited by the command trace-json.
use Rattle.std.specs.Prelude.{ℕ, List, [], ◌∷◌, ◌++◌, codes, Option, Some, None}
use Rattle.std.specs.Fmt.{decimal}
use Rattle.fixdec.specs.DecimalText.{fix_text}
use Rattle.fixdec.specs.Ends.{Ends}
use Rattle.lensmodel.specs.Texts.Pieces.{newline, why_text}
use Rattle.lensmodel.specs.Texts.Rows.{word_name}
use Rattle.lensmodel.specs.declared.row.Heading.{Heading}
use Rattle.lensmodel.specs.declared.row.Place.{Place}
use Rattle.lensmodel.specs.declared.row.Row.{Row}
use Rattle.lensmodel.specs.declared.row.Word.{Word}
use Rattle.lensmodel.specs.declared.row.Word.TheVariants.{Passes, Vignetted, Outside, Tir, Undecided, Wide, Lost}

-- ---- JSON of what is printed here: texts of digits, points and signs need no escape
-- a text between quotation marks
abbrev pub quoted : List ℕ → List ℕ
quoted text = 34 ∷ text ++ 34 ∷ []

-- values after one another, with commas between
abbrev pub joined : List (List ℕ) → List ℕ
joined [] = []
joined (a ∷ []) = a
joined (a ∷ b ∷ more) = a ++ codes "," ++ joined (b ∷ more)

abbrev pub array : List (List ℕ) → List ℕ
array values = codes "[" ++ joined values ++ codes "]"

abbrev pub object : List (List ℕ) → List ℕ
object pairs = codes "{" ++ joined pairs ++ codes "}"

abbrev pub pair : List ℕ → List ℕ → List ℕ
pair key value = quoted key ++ codes ":" ++ value

-- ---- a row
-- an interval as the texts of its two ends
abbrev pub span_json : ℕ → Ends → List ℕ
span_json scale a = array (quoted (fix_text scale a.lo) ∷ quoted (fix_text scale a.hi) ∷ [])

abbrev pub heading_pairs : ℕ → Option Heading → List (List ℕ)
heading_pairs scale None = []
heading_pairs scale (Some h) =
    pair (codes "L") (span_json scale h.l) ∷ pair (codes "M") (span_json scale h.m) ∷ pair (codes "N") (span_json scale h.n) ∷ []

abbrev pub place_json : ℕ → Place → List ℕ
place_json scale p =
    object (heading_pairs scale p.heading
    ++ pair (codes "path") (span_json scale p.path) ∷ pair (codes "rho") (span_json scale p.rho) ∷ pair (codes "x") (span_json scale p.x)
    ∷ pair (codes "y") (span_json scale p.y) ∷ pair (codes "z") (span_json scale p.z) ∷ [])

abbrev pub places_json : ℕ → List Place → List (List ℕ)
places_json scale [] = []
places_json scale (p ∷ more) = place_json scale p ∷ places_json scale more

-- the surface that a word names
abbrev pub at_pairs : Word → List (List ℕ)
at_pairs Passes = []
at_pairs (Vignetted j) = pair (codes "at") (decimal j) ∷ []
at_pairs (Outside j) = pair (codes "at") (decimal j) ∷ []
at_pairs (Tir j) = pair (codes "at") (decimal j) ∷ []
at_pairs (Undecided j rho rim2) = pair (codes "at") (decimal j) ∷ []
at_pairs Wide = []
at_pairs (Lost j why) = pair (codes "at") (decimal j) ∷ []

-- the intervals that overlap
abbrev pub overlap_pairs : ℕ → Word → List (List ℕ)
overlap_pairs scale (Undecided j rho rim2) = pair (codes "rho") (span_json scale rho) ∷ pair (codes "rim2") (span_json scale rim2) ∷ []
overlap_pairs scale w = []

-- why the row is lost
abbrev pub why_pairs : Word → List (List ℕ)
why_pairs (Lost j why) = pair (codes "why") (quoted (why_text why)) ∷ []
why_pairs w = []

-- the line of ray i
unfoldable pub json_line : ℕ → Row → List ℕ
json_line i row =
    object (at_pairs row.word ++ pair (codes "ray") (decimal i) ∷ overlap_pairs row.scale row.word
    ++ pair (codes "scale") (decimal row.scale) ∷ pair (codes "surfaces") (array (places_json row.scale row.places.items)) ∷ why_pairs row.word
    ++ pair (codes "word") (quoted (word_name row.word)) ∷ [])
    ++ newline
