-- The compact text of a row's data is its line without the newline.
use Rattle.std.proofs.Common.{◌≡◌, ℕ, zero, suc, ◌+◌, ◌/◌, ◌%◌, ◌^◌, ◌≤◌, ◌==◌, Bool, true, false, cond, List, [], ◌∷◌, ◌++◌, Option, Some, None, ℤ, pos, negsuc, codes, drop, refl, sym, ap, ap₂, ◌∙◌, subst, append_assoc, arith}
use Rattle.std.proofs.lemmas.Bool.{ne_eqb, le-ltb}
use Rattle.std.specs.Fmt.{decimal, digits, digits_onto, digit_glyph}
use Rattle.std.specs.Prelude.{unsigned_abs}
use Rattle.fixdec.specs.DecimalText.{fix_text, last_digits, minus_sign}
use Rattle.fixdec.specs.Ends.{Ends}
use Rattle.lensmodel.specs.Texts.JsonRows as rows
use Rattle.lensmodel.specs.Texts.JsonRows.{json_line}
use Rattle.lensmodel.specs.Texts.Pieces.{why_text}
use Rattle.lensmodel.specs.Texts.Rows.{word_name}
use Rattle.lensmodel.specs.declared.row.Heading.{Heading}
use Rattle.lensmodel.specs.declared.row.Place.{Place}
use Rattle.lensmodel.specs.declared.row.Row.{Row}
use Rattle.lensmodel.specs.declared.row.Word.{Word}
use Rattle.lensmodel.specs.declared.row.Word.TheVariants.{Passes, Vignetted, Outside, Tir, Undecided, Wide, Lost}
use Rattle.fixdec.specs.declared.step.Why.{Why}
use Rattle.fixdec.specs.declared.step.Why.TheVariants.{Root, Zero, Range}
use Rattle.lensreport.specs.JsonData.{count_data, span_data, heading_then, place_data, places_data, at_then, overlap_then, why_then, word_members, row_members, row_data}
use Rattle.lensreport.proofs.JsonObjects.{texts_of, pairs_of, array_text, object_text}
use Rattle.serde_json.proofs.OnLiterals.{serde_json_on_literals}
use Rattle.serde_json.specs.Data.{Data, string, array, item, no_items, Members, member, no_members, put}
use Rattle.serde_json.specs.Written.{compact_text, has_float, items_have_float, members_have_float}

-- ---- texts that need no escape
abbrev NeedsNoEscape : List ℕ → Type 0
NeedsNoEscape s = compact_text (string s) ≡ rows.quoted s

abbrev IsPlain : List ℕ → Type 0
IsPlain [] = Unit {0}
IsPlain (x ∷ s) = (35 ≤ x) × (x ≤ 91) × IsPlain s

-- the text behind the first quotation mark
abbrev inside : List ℕ → List ℕ
inside s = drop 1 (compact_text (string s))

inside-cons : (x : ℕ) (s : List ℕ) → 35 ≤ x → x ≤ 91 → inside (x ∷ s) ≡ x ∷ inside s
unfolding serde_json_on_literals
inside-cons x s low high =
    rw (
      ne_eqb x 34 (λ e. omega arith),
      ne_eqb x 92 (λ e. omega arith),
      ne_eqb x 8 (λ e. omega arith),
      ne_eqb x 12 (λ e. omega arith),
      ne_eqb x 10 (λ e. omega arith),
      ne_eqb x 13 (λ e. omega arith),
      ne_eqb x 9 (λ e. omega arith),
      le-ltb x 32 (omega arith),
    )

inside-plain : (s : List ℕ) → IsPlain s → inside s ≡ s ++ 34 ∷ []
inside-plain [] plain = refl
inside-plain (x ∷ s) plain = inside-cons x s plain.0 plain.1 ∙ ap (λ (rest : List ℕ). x ∷ rest) (inside-plain s plain.2)

plain_text : (s : List ℕ) → IsPlain s → NeedsNoEscape s
plain_text s plain = ap (λ (rest : List ℕ). 34 ∷ rest) (inside-plain s plain)

IsPlain-append : (s t : List ℕ) → IsPlain s → IsPlain t → IsPlain (s ++ t)
IsPlain-append [] t ps pt = pt
IsPlain-append (x ∷ s) t ps pt = (ps.0, ps.1, IsPlain-append s t ps.2 pt)

glyph : (n : ℕ) → digit_glyph false (n % 10) ≡ 48 + n % 10
glyph n = grind arith

low_digit : (n : ℕ) → 35 ≤ 48 + n % 10
low_digit n = omega arith

high_digit : (n : ℕ) → 48 + n % 10 ≤ 91
high_digit n = omega arith

IsPlain-glyph : (n : ℕ) (s : List ℕ) → IsPlain s → IsPlain (digit_glyph false (n % 10) ∷ s)
IsPlain-glyph n s ps =
    let P : ℕ → Type 0 = λ x. IsPlain (x ∷ s) in
    subst P (sym (glyph n)) (low_digit n, high_digit n, ps)

IsPlain-cond : (b : Bool) (s t : List ℕ) → IsPlain s → IsPlain t → IsPlain (cond b s t)
IsPlain-cond true s t ps pt = ps
IsPlain-cond false s t ps pt = pt

IsPlain-digits_onto : (k n : ℕ) (s : List ℕ) → IsPlain s → IsPlain (digits_onto k 10 false n s)
IsPlain-digits_onto zero n s ps = ps
IsPlain-digits_onto (suc k) n s ps =
    let one = IsPlain-glyph n s ps in
    IsPlain-cond (n / 10 == 0) (digit_glyph false (n % 10) ∷ s) (digits_onto k 10 false (n / 10) (digit_glyph false (n % 10) ∷ s)) one (IsPlain-digits_onto k (n / 10) (digit_glyph false (n % 10) ∷ s) one)

IsPlain-decimal : (n : ℕ) → IsPlain (decimal n)
unfolding digits
IsPlain-decimal n = IsPlain-digits_onto 64 n [] tt

IsPlain-last_digits : (k n : ℕ) → IsPlain (last_digits k n)
IsPlain-last_digits zero n = tt
IsPlain-last_digits (suc k) n = IsPlain-append (last_digits k (n / 10)) ((48 + n % 10) ∷ []) (IsPlain-last_digits k (n / 10)) (low_digit n, high_digit n, tt)

IsPlain-minus_sign : (z : ℤ) → IsPlain (minus_sign z)
IsPlain-minus_sign (pos n) = tt
IsPlain-minus_sign (negsuc n) = (omega arith, omega arith, tt)

IsPlain-fix_text : (scale : ℕ) (z : ℤ) → IsPlain (fix_text scale z)
unfolding fix_text
IsPlain-fix_text scale z =
    let whole = decimal (unsigned_abs z / 10 ^ scale) in
    IsPlain-append (minus_sign z ++ whole ++ codes ".") (last_digits scale (unsigned_abs z))
    (IsPlain-append (minus_sign z ++ whole) (codes ".")
    (IsPlain-append (minus_sign z) whole (IsPlain-minus_sign z) (IsPlain-decimal (unsigned_abs z / 10 ^ scale))) (omega arith, omega arith, tt))
    (IsPlain-last_digits scale (unsigned_abs z))

fix_quoted : (scale : ℕ) (z : ℤ) → NeedsNoEscape (fix_text scale z)
fix_quoted scale z = plain_text (fix_text scale z) (IsPlain-fix_text scale z)

-- ---- the parts of a row
span_text : (scale : ℕ) (a : Ends) → compact_text (span_data scale a) ≡ rows.span_json scale a
span_text scale a =
    array_text (item (string (fix_text scale a.lo)) (item (string (fix_text scale a.hi)) no_items))
    ∙ ap₂ (λ (lo hi : List ℕ). rows.array (lo ∷ hi ∷ [])) (fix_quoted scale a.lo) (fix_quoted scale a.hi)

-- a pair whose key needs no escape
pair_text : (k : List ℕ) (d : Data) (v : List ℕ) → NeedsNoEscape k → compact_text d ≡ v → compact_text (string k) ++ 58 ∷ compact_text d ≡ rows.pair k v
pair_text k d v pk e =
    ap₂ (λ (a b : List ℕ). a ++ 58 ∷ b) pk e
    ∙ sym (append_assoc (rows.quoted k) (codes ":") v)

span_pair : (k : List ℕ) (scale : ℕ) (a : Ends) → NeedsNoEscape k → compact_text (string k) ++ 58 ∷ compact_text (span_data scale a) ≡ rows.pair k (rows.span_json scale a)
span_pair k scale a pk = pair_text k (span_data scale a) (rows.span_json scale a) pk (span_text scale a)

count_pair : (k : List ℕ) (n : ℕ) → NeedsNoEscape k → compact_text (string k) ++ 58 ∷ compact_text (count_data n) ≡ rows.pair k (decimal n)
count_pair k n pk = pair_text k (count_data n) (decimal n) pk refl

string_pair : (k s : List ℕ) → NeedsNoEscape k → NeedsNoEscape s → compact_text (string k) ++ 58 ∷ compact_text (string s) ≡ rows.pair k (rows.quoted s)
string_pair k s pk ps = pair_text k (string s) (rows.quoted s) pk ps

cons : (a b : List ℕ) (xs ys : List (List ℕ)) → a ≡ b → xs ≡ ys → a ∷ xs ≡ b ∷ ys
cons a b xs ys e es = ap₂ (λ (x : List ℕ) (l : List (List ℕ)). x ∷ l) e es

-- ---- a place
heading_pairs : (scale : ℕ) (heading : Option Heading) (rest : Members) → pairs_of (heading_then scale heading rest) ≡ rows.heading_pairs scale heading ++ pairs_of rest
unfolding serde_json_on_literals
heading_pairs scale None rest = refl
heading_pairs scale (Some h) rest =
    cons _ _ _ _ (span_pair (codes "L") scale h.l refl)
    (cons _ _ _ _ (span_pair (codes "M") scale h.m refl) (cons _ _ _ _ (span_pair (codes "N") scale h.n refl) refl))

abbrev position_members : ℕ → Place → Members
position_members scale p =
    member (codes "path") (span_data scale p.path) (member (codes "rho") (span_data scale p.rho) (member (codes "x") (span_data scale p.x)
    (member (codes "y") (span_data scale p.y) (member (codes "z") (span_data scale p.z) no_members))))

abbrev position_pairs : ℕ → Place → List (List ℕ)
position_pairs scale p =
    rows.pair (codes "path") (rows.span_json scale p.path) ∷ rows.pair (codes "rho") (rows.span_json scale p.rho)
    ∷ rows.pair (codes "x") (rows.span_json scale p.x) ∷ rows.pair (codes "y") (rows.span_json scale p.y)
    ∷ rows.pair (codes "z") (rows.span_json scale p.z) ∷ []

position_text : (scale : ℕ) (p : Place) → pairs_of (position_members scale p) ≡ position_pairs scale p
unfolding serde_json_on_literals
position_text scale p =
    cons _ _ _ _ (span_pair (codes "path") scale p.path refl)
    (cons _ _ _ _ (span_pair (codes "rho") scale p.rho refl)
    (cons _ _ _ _ (span_pair (codes "x") scale p.x refl)
    (cons _ _ _ _ (span_pair (codes "y") scale p.y refl) (cons _ _ _ _ (span_pair (codes "z") scale p.z refl) refl))))

place_text : (scale : ℕ) (p : Place) → compact_text (place_data scale p) ≡ rows.place_json scale p
place_text scale p =
    object_text (heading_then scale p.heading (position_members scale p))
    ∙ ap rows.object (heading_pairs scale p.heading (position_members scale p) ∙ ap (λ (l : List (List ℕ)). rows.heading_pairs scale p.heading ++ l) (position_text scale p))

places_texts : (scale : ℕ) (places : List Place) → texts_of (places_data scale places) ≡ rows.places_json scale places
places_texts scale [] = refl
places_texts scale (p ∷ more) = cons _ _ _ _ (place_text scale p) (places_texts scale more)

places_text : (scale : ℕ) (places : List Place) → compact_text (array (places_data scale places)) ≡ rows.array (rows.places_json scale places)
places_text scale places = array_text (places_data scale places) ∙ ap rows.array (places_texts scale places)

-- ---- a word
at_pairs : (w : Word) (rest : Members) → pairs_of (at_then w rest) ≡ rows.at_pairs w ++ pairs_of rest
unfolding serde_json_on_literals
at_pairs Passes rest = refl
at_pairs (Vignetted j) rest = cons _ _ _ _ (count_pair (codes "at") j refl) refl
at_pairs (Outside j) rest = cons _ _ _ _ (count_pair (codes "at") j refl) refl
at_pairs (Tir j) rest = cons _ _ _ _ (count_pair (codes "at") j refl) refl
at_pairs (Undecided j rho rim2) rest = cons _ _ _ _ (count_pair (codes "at") j refl) refl
at_pairs Wide rest = refl
at_pairs (Lost j why) rest = cons _ _ _ _ (count_pair (codes "at") j refl) refl

overlap_pairs : (scale : ℕ) (w : Word) (rest : Members) → pairs_of (overlap_then scale w rest) ≡ rows.overlap_pairs scale w ++ pairs_of rest
unfolding serde_json_on_literals
overlap_pairs scale Passes rest = refl
overlap_pairs scale (Vignetted j) rest = refl
overlap_pairs scale (Outside j) rest = refl
overlap_pairs scale (Tir j) rest = refl
overlap_pairs scale (Undecided j rho rim2) rest =
    cons _ _ _ _ (span_pair (codes "rho") scale rho refl) (cons _ _ _ _ (span_pair (codes "rim2") scale rim2 refl) refl)
overlap_pairs scale Wide rest = refl
overlap_pairs scale (Lost j why) rest = refl

why_quoted : (why : Why) → NeedsNoEscape (why_text why)
unfolding serde_json_on_literals
why_quoted Root = refl
why_quoted Zero = refl
why_quoted Range = refl

why_pairs : (w : Word) (rest : Members) → pairs_of (why_then w rest) ≡ rows.why_pairs w ++ pairs_of rest
unfolding serde_json_on_literals
why_pairs Passes rest = refl
why_pairs (Vignetted j) rest = refl
why_pairs (Outside j) rest = refl
why_pairs (Tir j) rest = refl
why_pairs (Undecided j rho rim2) rest = refl
why_pairs Wide rest = refl
why_pairs (Lost j why) rest = cons _ _ _ _ (string_pair (codes "why") (why_text why) refl (why_quoted why)) refl

word_quoted : (w : Word) → NeedsNoEscape (word_name w)
unfolding serde_json_on_literals
word_quoted Passes = refl
word_quoted (Vignetted j) = refl
word_quoted (Outside j) = refl
word_quoted (Tir j) = refl
word_quoted (Undecided j rho rim2) = refl
word_quoted Wide = refl
word_quoted (Lost j why) = refl

-- ---- a row
regroup : (a b c : List (List ℕ)) (x y z w : List ℕ) → a ++ x ∷ (b ++ y ∷ z ∷ (c ++ w ∷ [])) ≡ a ++ x ∷ b ++ y ∷ z ∷ c ++ w ∷ []
regroup a b c x y z w = sym (simp append_assoc)

abbrev row_pairs : ℕ → ℕ → List Place → Word → List (List ℕ)
row_pairs i scale places w =
    rows.at_pairs w ++ rows.pair (codes "ray") (decimal i) ∷ rows.overlap_pairs scale w
    ++ rows.pair (codes "scale") (decimal scale) ∷ rows.pair (codes "surfaces") (rows.array (rows.places_json scale places)) ∷ rows.why_pairs w
    ++ rows.pair (codes "word") (rows.quoted (word_name w)) ∷ []

end_pairs : (w : Word) → pairs_of (why_then w (member (codes "word") (string (word_name w)) no_members)) ≡ rows.why_pairs w ++ rows.pair (codes "word") (rows.quoted (word_name w)) ∷ []
unfolding serde_json_on_literals
end_pairs w =
    why_pairs w (member (codes "word") (string (word_name w)) no_members)
    ∙ ap (λ (p : List ℕ). rows.why_pairs w ++ p ∷ []) (string_pair (codes "word") (word_name w) refl (word_quoted w))

scale_pairs : (scale : ℕ) (places : List Place) (rest : Members) (pairs : List (List ℕ)) → pairs_of rest ≡ pairs
    → pairs_of (member (codes "scale") (count_data scale) (member (codes "surfaces") (array (places_data scale places)) rest))
    ≡ rows.pair (codes "scale") (decimal scale) ∷ rows.pair (codes "surfaces") (rows.array (rows.places_json scale places)) ∷ pairs
unfolding serde_json_on_literals
scale_pairs scale places rest pairs e =
    cons _ _ _ _ (count_pair (codes "scale") scale refl)
    (cons _ _ _ _ (pair_text (codes "surfaces") (array (places_data scale places)) (rows.array (rows.places_json scale places)) refl (places_text scale places)) e)

ray_pairs : (i : ℕ) (rest : Members) (pairs : List (List ℕ)) → pairs_of rest ≡ pairs
    → pairs_of (member (codes "ray") (count_data i) rest) ≡ rows.pair (codes "ray") (decimal i) ∷ pairs
unfolding serde_json_on_literals
ray_pairs i rest pairs e = cons _ _ _ _ (count_pair (codes "ray") i refl) e

members_pairs : (i scale : ℕ) (places : List Place) (w : Word) → pairs_of (row_members i scale places w) ≡ row_pairs i scale places w
members_pairs i scale places w =
    let ends : Members = why_then w (member (codes "word") (string (word_name w)) no_members) in
    let later : Members = member (codes "scale") (count_data scale) (member (codes "surfaces") (array (places_data scale places)) ends) in
    let late : Members = member (codes "ray") (count_data i) (overlap_then scale w later) in
    at_pairs w late
    ∙ ap (λ (l : List (List ℕ)). rows.at_pairs w ++ l)
    (ray_pairs i (overlap_then scale w later) _
    (overlap_pairs scale w later
    ∙ ap (λ (l : List (List ℕ)). rows.overlap_pairs scale w ++ l) (scale_pairs scale places ends _ (end_pairs w))))
    ∙ regroup (rows.at_pairs w) (rows.overlap_pairs scale w) (rows.why_pairs w) (rows.pair (codes "ray") (decimal i))
    (rows.pair (codes "scale") (decimal scale)) (rows.pair (codes "surfaces") (rows.array (rows.places_json scale places)))
    (rows.pair (codes "word") (rows.quoted (word_name w)))

pub row_text : (i : ℕ) (row : Row) → compact_text (row_data i row) ++ 10 ∷ [] ≡ json_line i row
unfolding row_data json_line
row_text i row =
    ap (λ (text : List ℕ). text ++ 10 ∷ [])
    (object_text (row_members i row.scale row.places.items row.word) ∙ ap rows.object (members_pairs i row.scale row.places.items row.word))

-- ---- no number of a row is a float
heading_whole : (scale : ℕ) (heading : Option Heading) (rest : Members) → members_have_float rest ≡ false → members_have_float (heading_then scale heading rest) ≡ false
heading_whole scale None rest h = h
heading_whole scale (Some heading) rest h = h

places_whole : (scale : ℕ) (places : List Place) → items_have_float (places_data scale places) ≡ false
places_whole scale [] = refl
places_whole scale (p ∷ more) = rw (heading_whole scale p.heading (position_members scale p) refl) (places_whole scale more)

at_whole : (w : Word) (rest : Members) → members_have_float rest ≡ false → members_have_float (at_then w rest) ≡ false
at_whole Passes rest h = h
at_whole (Vignetted j) rest h = h
at_whole (Outside j) rest h = h
at_whole (Tir j) rest h = h
at_whole (Undecided j rho rim2) rest h = h
at_whole Wide rest h = h
at_whole (Lost j why) rest h = h

overlap_whole : (scale : ℕ) (w : Word) (rest : Members) → members_have_float rest ≡ false → members_have_float (overlap_then scale w rest) ≡ false
overlap_whole scale Passes rest h = h
overlap_whole scale (Vignetted j) rest h = h
overlap_whole scale (Outside j) rest h = h
overlap_whole scale (Tir j) rest h = h
overlap_whole scale (Undecided j rho rim2) rest h = h
overlap_whole scale Wide rest h = h
overlap_whole scale (Lost j why) rest h = h

why_whole : (w : Word) (rest : Members) → members_have_float rest ≡ false → members_have_float (why_then w rest) ≡ false
why_whole Passes rest h = h
why_whole (Vignetted j) rest h = h
why_whole (Outside j) rest h = h
why_whole (Tir j) rest h = h
why_whole (Undecided j rho rim2) rest h = h
why_whole Wide rest h = h
why_whole (Lost j why) rest h = h

pub row_whole : (i : ℕ) (row : Row) → has_float (row_data i row) ≡ false
unfolding row_data
row_whole i row =
    let ends : Members = why_then row.word (member (codes "word") (string (word_name row.word)) no_members) in
    let later : Members = member (codes "scale") (count_data row.scale) (member (codes "surfaces") (array (places_data row.scale row.places.items)) ends) in
    let ended : members_have_float ends ≡ false = why_whole row.word (member (codes "word") (string (word_name row.word)) no_members) refl in
    let listed : members_have_float later ≡ false = rw (places_whole row.scale row.places.items) ended in
    at_whole row.word (member (codes "ray") (count_data i) (overlap_then row.scale row.word later)) (overlap_whole row.scale row.word later listed)

-- ---- members go to the places of their keys
pub row_puts : (i scale : ℕ) (places : List Place) (w : Word)
    → put (codes "surfaces") (array (places_data scale places)) (put (codes "scale") (count_data scale) (put (codes "ray") (count_data i) (word_members scale w)))
    ≡ row_members i scale places w
row_puts i scale places Passes = refl
row_puts i scale places (Vignetted j) = refl
row_puts i scale places (Outside j) = refl
row_puts i scale places (Tir j) = refl
row_puts i scale places (Undecided j rho rim2) = refl
row_puts i scale places Wide = refl
row_puts i scale places (Lost j why) = refl
