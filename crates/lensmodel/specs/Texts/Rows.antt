-- The lines of traced rays. Cited by the command trace.
use Rattle.std.specs.Prelude.{ℕ, zero, suc, Bool, true, false, List, [], ◌∷◌, ◌++◌, codes, length, filter, Option, Some, None}
use Rattle.fixdec.specs.Ends.{Ends}
use Rattle.fixdec.specs.declared.step.Step.{Step}
use Rattle.fixdec.specs.declared.step.Step.TheVariants.{Val}
use Rattle.lensmodel.specs.Rows.Spot.{is_pass, passes, centroid, mean_square}
use Rattle.lensmodel.specs.Texts.Pieces.{newline, spaced, spaced_number, named_span, why_text}
use Rattle.lensmodel.specs.declared.row.Heading.{Heading}
use Rattle.lensmodel.specs.declared.row.Place.{Place}
use Rattle.lensmodel.specs.declared.row.Row.{Row}
use Rattle.lensmodel.specs.declared.row.Word.{Word}
use Rattle.lensmodel.specs.declared.row.Word.TheVariants.{Passes, Vignetted, Outside, Tir, Undecided, Wide, Lost as LostAt}
use Rattle.lensmodel.specs.declared.setup.Setup.{Setup}

-- trace surfaces n wave DEC res r width DEC
abbrev pub trace_head : Setup → List ℕ
trace_head s =
    codes "trace surfaces" ++ spaced_number (length s.lens.surfaces.items) ++ codes " wave" ++ spaced s.wave ++ codes " res" ++ spaced_number s.res
    ++ codes " width" ++ spaced s.width ++ newline

-- ---- a ray
-- the name of a word
abbrev pub word_name : Word → List ℕ
word_name Passes = codes "passes"
word_name (Vignetted j) = codes "vignetted"
word_name (Outside j) = codes "outside"
word_name (Tir j) = codes "tir"
word_name (Undecided j rho rim2) = codes "undecided"
word_name Wide = codes "wide"
word_name (LostAt j why) = codes "lost"

-- the surface and the cause that it names
abbrev pub word_place : Word → List ℕ
word_place Passes = []
word_place (Vignetted j) = spaced_number j
word_place (Outside j) = spaced_number j
word_place (Tir j) = spaced_number j
word_place (Undecided j rho rim2) = spaced_number j
word_place Wide = []
word_place (LostAt j why) = spaced_number j ++ codes " " ++ why_text why

-- the intervals that overlap
abbrev pub word_spans : ℕ → Word → List ℕ
word_spans scale (Undecided j rho rim2) = named_span (codes "rho") scale rho ++ named_span (codes "rim2") scale rim2
word_spans scale w = []

-- ray i WORD scale S
abbrev pub ray_line : ℕ → Row → List ℕ
ray_line i row =
    codes "ray" ++ spaced_number i ++ codes " " ++ word_name row.word ++ word_place row.word ++ codes " scale" ++ spaced_number row.scale
    ++ word_spans row.scale row.word ++ newline

-- at j rho [..] x [..] y [..] z [..] path [..]
abbrev pub place_line : ℕ → ℕ → Place → List ℕ
place_line scale j p =
    codes "at" ++ spaced_number j ++ named_span (codes "rho") scale p.rho ++ named_span (codes "x") scale p.x ++ named_span (codes "y") scale p.y
    ++ named_span (codes "z") scale p.z ++ named_span (codes "path") scale p.path ++ newline

-- to j L [..] M [..] N [..], where the place has a heading
abbrev pub heading_line : ℕ → ℕ → Option Heading → List ℕ
heading_line scale j None = []
heading_line scale j (Some h) =
    codes "to" ++ spaced_number j ++ named_span (codes "L") scale h.l ++ named_span (codes "M") scale h.m ++ named_span (codes "N") scale h.n ++ newline

abbrev pub place_lines : ℕ → ℕ → Place → List ℕ
place_lines scale j p = place_line scale j p ++ heading_line scale j p.heading

-- the places from surface j on; and the last one alone
abbrev pub all_places : ℕ → ℕ → List Place → List ℕ
all_places scale j [] = []
all_places scale j (p ∷ more) = place_lines scale j p ++ all_places scale (suc j) more

abbrev pub last_place : ℕ → ℕ → List Place → List ℕ
last_place scale j [] = []
last_place scale j (p ∷ []) = place_lines scale j p
last_place scale j (p ∷ q ∷ more) = last_place scale (suc j) (q ∷ more)

-- a ray asked for by itself has all its places, one of a fan or of a grid the last
abbrev pub ray_lines : Bool → ℕ → Row → List ℕ
ray_lines true i row = ray_line i row ++ all_places row.scale 1 row.places.items
ray_lines false i row = ray_line i row ++ last_place row.scale 1 row.places.items

-- rays numbered from i on
abbrev pub rays_lines : Bool → ℕ → List Row → List ℕ
rays_lines single i [] = []
rays_lines single i (row ∷ more) = ray_lines single i row ++ rays_lines single (suc i) more

-- ---- a spot
-- the mean square distance, or that it is lost
abbrev pub spread_text : Step Ends → List ℕ
spread_text (Val a) = named_span (codes "msr") 12 a
spread_text r = codes " msr lost"

-- the centroid and the mean square distance, or that the centroid is lost
abbrev pub statistics_text : Step (Ends × Ends) → Step Ends → List ℕ
statistics_text (Val c) spread = codes " centroid" ++ named_span (codes "x") 12 c.0 ++ named_span (codes "y") 12 c.1 ++ spread_text spread
statistics_text r spread = codes " centroid lost"

-- there are none where no ray passes
abbrev pub statistics_if : ℕ → List Row → List ℕ
statistics_if zero rows = []
statistics_if (suc n) rows = statistics_text (centroid rows) (mean_square rows)

-- spot rays m passes k, and the statistics
abbrev pub spot_line : List Row → List ℕ
spot_line rows =
    let passing = length (filter passes rows) in
    codes "spot rays" ++ spaced_number (length rows) ++ codes " passes" ++ spaced_number passing ++ statistics_if passing rows ++ newline

-- ---- the end
abbrev pub is_vignetted : Word → Bool
is_vignetted (Vignetted j) = true
is_vignetted w = false

abbrev pub is_outside : Word → Bool
is_outside (Outside j) = true
is_outside w = false

abbrev pub is_tir : Word → Bool
is_tir (Tir j) = true
is_tir w = false

abbrev pub is_undecided : Word → Bool
is_undecided (Undecided j rho rim2) = true
is_undecided w = false

abbrev pub is_wide : Word → Bool
is_wide Wide = true
is_wide w = false

abbrev pub is_lost : Word → Bool
is_lost (LostAt j why) = true
is_lost w = false

-- how many rows have such a word, after its name
abbrev pub counted : List ℕ → (Word → Bool) → List Row → List ℕ
counted name is rows = codes " " ++ name ++ spaced_number (length (filter (λ row. is row.word) rows))

-- total rays n passes n vignetted n outside n tir n undecided n wide n lost n
abbrev pub total_line : List Row → List ℕ
total_line rows =
    codes "total rays" ++ spaced_number (length rows) ++ counted (codes "passes") is_pass rows ++ counted (codes "vignetted") is_vignetted rows
    ++ counted (codes "outside") is_outside rows ++ counted (codes "tir") is_tir rows ++ counted (codes "undecided") is_undecided rows
    ++ counted (codes "wide") is_wide rows ++ counted (codes "lost") is_lost rows ++ newline
