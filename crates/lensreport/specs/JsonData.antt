-- The row of a ray as data of JSON: its members in the order of their keys, its intervals as texts.
use Rattle.std.specs.Prelude.{ℕ, List, codes, map, Option, Some, None}
use Rattle.fixdec.specs.DecimalText.{fix_text}
use Rattle.fixdec.specs.Ends.{Ends}
use Rattle.lensmodel.specs.Texts.Pieces.{why_text}
use Rattle.lensmodel.specs.Texts.Rows.{word_name}
use Rattle.lensmodel.specs.declared.row.Heading.{Heading}
use Rattle.lensmodel.specs.declared.row.Place.{Place}
use Rattle.lensmodel.specs.declared.row.Row.{Row}
use Rattle.lensmodel.specs.declared.row.Word.{Word}
use Rattle.lensmodel.specs.declared.row.Word.TheVariants.{Passes, Vignetted, Outside, Tir, Undecided, Wide, Lost}
use Rattle.serde_json.specs.Data.{Data, string, number, unsigned, array, object, Items, item, no_items, Members, member, no_members}
use Rattle.serde_json.specs.View.{items_of}

abbrev pub count_data : ℕ → Data
count_data n = number (unsigned n)

-- an interval as the texts of its two ends
abbrev pub span_data : ℕ → Ends → Data
span_data scale a = array (item (string (fix_text scale a.lo)) (item (string (fix_text scale a.hi)) no_items))

-- ---- a place
abbrev pub heading_then : ℕ → Option Heading → Members → Members
heading_then scale None rest = rest
heading_then scale (Some h) rest =
    member (codes "L") (span_data scale h.l) (member (codes "M") (span_data scale h.m) (member (codes "N") (span_data scale h.n) rest))

abbrev pub heading_members : ℕ → Option Heading → Members
heading_members scale heading = heading_then scale heading no_members

abbrev pub place_data : ℕ → Place → Data
place_data scale p =
    object (heading_then scale p.heading
    (member (codes "path") (span_data scale p.path) (member (codes "rho") (span_data scale p.rho) (member (codes "x") (span_data scale p.x)
    (member (codes "y") (span_data scale p.y) (member (codes "z") (span_data scale p.z) no_members))))))

abbrev pub places_data : ℕ → List Place → Items
places_data scale places = items_of (map (place_data scale) places)

-- ---- a word, and a row
-- the surface that a word names
abbrev pub at_then : Word → Members → Members
at_then Passes rest = rest
at_then (Vignetted j) rest = member (codes "at") (count_data j) rest
at_then (Outside j) rest = member (codes "at") (count_data j) rest
at_then (Tir j) rest = member (codes "at") (count_data j) rest
at_then (Undecided j rho rim2) rest = member (codes "at") (count_data j) rest
at_then Wide rest = rest
at_then (Lost j why) rest = member (codes "at") (count_data j) rest

-- the intervals that overlap
abbrev pub overlap_then : ℕ → Word → Members → Members
overlap_then scale (Undecided j rho rim2) rest = member (codes "rho") (span_data scale rho) (member (codes "rim2") (span_data scale rim2) rest)
overlap_then scale w rest = rest

-- why the row is lost
abbrev pub why_then : Word → Members → Members
why_then (Lost j why) rest = member (codes "why") (string (why_text why)) rest
why_then w rest = rest

-- what a word says
abbrev pub word_members : ℕ → Word → Members
word_members scale w = at_then w (overlap_then scale w (why_then w (member (codes "word") (string (word_name w)) no_members)))

abbrev pub row_members : ℕ → ℕ → List Place → Word → Members
row_members i scale places w =
    at_then w (member (codes "ray") (count_data i) (overlap_then scale w
    (member (codes "scale") (count_data scale) (member (codes "surfaces") (array (places_data scale places)) (why_then w
    (member (codes "word") (string (word_name w)) no_members))))))

-- the row of ray i
unfoldable pub row_data : ℕ → Row → Data
row_data i row = object (row_members i row.scale row.places.items row.word)
