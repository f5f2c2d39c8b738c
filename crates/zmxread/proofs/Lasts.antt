-- The last lines of each tag in a block with one more line, and what they make of its surface.
use Rattle.std.specs.Prelude.{◌≡◌, ℕ, true, false, ◌&&◌, nat_eq, List, [], ◌∷◌, ◌++◌, codes, Option, Some, None, if◌then◌else◌, refl}
use Rattle.std.proofs.Common.{ap, ◌∙◌}
use Rattle.fixdec.specs.Decimal.{Decimal}
use Rattle.lensmodel.specs.Files.Causes.{or_first}
use Rattle.lensmodel.specs.Files.Lens.{last_of, last_of_index, kind_in, decimal_in, thickness_in, glass_in, mirror_in, semi_in, rim_in, coefficient_in, surface_of}
use Rattle.lensmodel.specs.Files.LensFaults.{is_SURF}
use Rattle.lensmodel.specs.Files.Records.{Words, same_word, has_tag, word_at, is_number, decimal_at}
use Rattle.lensmodel.specs.declared.surface.Surface.{Surface}
use Rattle.records.specs.LineLaws.{last_where-append}
use Rattle.zmxread.specs.Changes.{with_TYPE, with_CURV, with_CONI, with_DISZ, with_GLAS, with_DIAM, with_coefficient}
use Rattle.zmxread.proofs.Blocks.{Changes}
use Rattle.zmxread.proofs.TagWords.{other_tag}

pub last_of-new : (tag : List ℕ) (ls : List Words) (l : Words) → has_tag tag l ≡ true → last_of tag (ls ++ l ∷ []) ≡ Some l
last_of-new tag ls l h = last_where-append (λ x. has_tag tag x) ls l ∙ rw h refl

pub last_of-old : (tag : List ℕ) (ls : List Words) (l : Words) → has_tag tag l ≡ false → last_of tag (ls ++ l ∷ []) ≡ last_of tag ls
last_of-old tag ls l h = last_where-append (λ x. has_tag tag x) ls l ∙ rw h refl

pub last_of_index-old : (tag : List ℕ) (i : ℕ) (ls : List Words) (l : Words) → has_tag tag l ≡ false
    → last_of_index tag i (ls ++ l ∷ []) ≡ last_of_index tag i ls
last_of_index-old tag i ls l h = last_where-append (λ x. has_tag tag x && is_number i (word_at 1 x)) ls l ∙ rw h refl

-- a line of the tag whose index is k
pub last_of_index-new : (tag : List ℕ) (i k : ℕ) (ls : List Words) (l : Words) → has_tag tag l ≡ true → is_number i (word_at 1 l) ≡ nat_eq k i
    → last_of_index tag i (ls ++ l ∷ []) ≡ (if nat_eq k i then Some l else last_of_index tag i ls)
last_of_index-new tag i k ls l h e =
    last_where-append (λ x. has_tag tag x && is_number i (word_at 1 x)) ls l
    ∙ rw (h, e) (elim (nat_eq k i) as (λ b. or_first (if b then Some l else None) (last_of_index tag i ls) ≡ (if b then Some l else last_of_index tag i ls)) [ true ↦ refl | false ↦ refl ])

-- ---- the surface of some last lines
abbrev pub surface_by : Option Words → Option Words → Option Words → Option Words → Option Words → Option Words → (ℕ → Decimal) → Surface
surface_by type curv coni disz glas diam a = record {
  kind = kind_in type;
  curv = decimal_in 1 curv;
  conic = decimal_in 1 coni;
  thick = thickness_in disz;
  glass = glass_in glas;
  semi = semi_in diam;
  rim = rim_in diam;
  mirror = mirror_in glas;
  a1 = a 1;
  a2 = a 2;
  a3 = a 3;
  a4 = a 4;
  a5 = a 5;
  a6 = a 6;
  a7 = a 7;
  a8 = a 8;
}

-- a line with none of the tags of the fields, that opens no surface
pub record HasNone (l : Words) : Type 0 where
  pub surf : is_SURF l ≡ false
  pub type : has_tag (codes "TYPE") l ≡ false
  pub curv : has_tag (codes "CURV") l ≡ false
  pub coni : has_tag (codes "CONI") l ≡ false
  pub disz : has_tag (codes "DISZ") l ≡ false
  pub glas : has_tag (codes "GLAS") l ≡ false
  pub diam : has_tag (codes "DIAM") l ≡ false
  pub parm : has_tag (codes "PARM") l ≡ false

old : (tag : List ℕ) (l : Words) → has_tag tag l ≡ false → (ls : List Words) → last_of tag (ls ++ l ∷ []) ≡ last_of tag ls
old tag l h ls = last_of-old tag ls l h

old_coefficients : (l : Words) → has_tag (codes "PARM") l ≡ false → (ls : List Words) (i : ℕ) → coefficient_in i (ls ++ l ∷ []) ≡ coefficient_in i ls
old_coefficients l h ls i = ap (decimal_in 2) (last_of_index-old (codes "PARM") i ls l h)

-- another line changes nothing
pub none-changes : (l : Words) → HasNone l → Changes is_SURF surface_of l (λ f. f)
none-changes l n = record {
  inner = n.surf;
  made = λ head ls k. surface_by
      (old (codes "TYPE") l n.type ls k) (old (codes "CURV") l n.curv ls k) (old (codes "CONI") l n.coni ls k)
      (old (codes "DISZ") l n.disz ls k) (old (codes "GLAS") l n.glas ls k) (old (codes "DIAM") l n.diam ls k)
      (λ i. old_coefficients l n.parm ls i k);
}

-- the line's one tag
other : (tag : List ℕ) (l : Words) → has_tag tag l ≡ true → (b : List ℕ) → same_word tag b ≡ false → has_tag b l ≡ false
other tag l h b e = other_tag tag b l h e

pub TYPE-changes : (l : Words) → has_tag (codes "TYPE") l ≡ true → Changes is_SURF surface_of l (with_TYPE l)
TYPE-changes l h =
    let no = other (codes "TYPE") l h in
    record {
      inner = no (codes "SURF") refl;
      made = λ head ls k. surface_by
          (last_of-new (codes "TYPE") ls l h k)
          (old (codes "CURV") l (no (codes "CURV") refl) ls k)
          (old (codes "CONI") l (no (codes "CONI") refl) ls k)
          (old (codes "DISZ") l (no (codes "DISZ") refl) ls k)
          (old (codes "GLAS") l (no (codes "GLAS") refl) ls k)
          (old (codes "DIAM") l (no (codes "DIAM") refl) ls k)
          (λ i. old_coefficients l (no (codes "PARM") refl) ls i k);
    }

pub CURV-changes : (l : Words) → has_tag (codes "CURV") l ≡ true → Changes is_SURF surface_of l (with_CURV l)
CURV-changes l h =
    let no = other (codes "CURV") l h in
    record {
      inner = no (codes "SURF") refl;
      made = λ head ls k. surface_by
          (old (codes "TYPE") l (no (codes "TYPE") refl) ls k)
          (last_of-new (codes "CURV") ls l h k)
          (old (codes "CONI") l (no (codes "CONI") refl) ls k)
          (old (codes "DISZ") l (no (codes "DISZ") refl) ls k)
          (old (codes "GLAS") l (no (codes "GLAS") refl) ls k)
          (old (codes "DIAM") l (no (codes "DIAM") refl) ls k)
          (λ i. old_coefficients l (no (codes "PARM") refl) ls i k);
    }

pub CONI-changes : (l : Words) → has_tag (codes "CONI") l ≡ true → Changes is_SURF surface_of l (with_CONI l)
CONI-changes l h =
    let no = other (codes "CONI") l h in
    record {
      inner = no (codes "SURF") refl;
      made = λ head ls k. surface_by
          (old (codes "TYPE") l (no (codes "TYPE") refl) ls k)
          (old (codes "CURV") l (no (codes "CURV") refl) ls k)
          (last_of-new (codes "CONI") ls l h k)
          (old (codes "DISZ") l (no (codes "DISZ") refl) ls k)
          (old (codes "GLAS") l (no (codes "GLAS") refl) ls k)
          (old (codes "DIAM") l (no (codes "DIAM") refl) ls k)
          (λ i. old_coefficients l (no (codes "PARM") refl) ls i k);
    }

pub DISZ-changes : (l : Words) → has_tag (codes "DISZ") l ≡ true → Changes is_SURF surface_of l (with_DISZ l)
DISZ-changes l h =
    let no = other (codes "DISZ") l h in
    record {
      inner = no (codes "SURF") refl;
      made = λ head ls k. surface_by
          (old (codes "TYPE") l (no (codes "TYPE") refl) ls k)
          (old (codes "CURV") l (no (codes "CURV") refl) ls k)
          (old (codes "CONI") l (no (codes "CONI") refl) ls k)
          (last_of-new (codes "DISZ") ls l h k)
          (old (codes "GLAS") l (no (codes "GLAS") refl) ls k)
          (old (codes "DIAM") l (no (codes "DIAM") refl) ls k)
          (λ i. old_coefficients l (no (codes "PARM") refl) ls i k);
    }

pub GLAS-changes : (l : Words) → has_tag (codes "GLAS") l ≡ true → Changes is_SURF surface_of l (with_GLAS l)
GLAS-changes l h =
    let no = other (codes "GLAS") l h in
    record {
      inner = no (codes "SURF") refl;
      made = λ head ls k. surface_by
          (old (codes "TYPE") l (no (codes "TYPE") refl) ls k)
          (old (codes "CURV") l (no (codes "CURV") refl) ls k)
          (old (codes "CONI") l (no (codes "CONI") refl) ls k)
          (old (codes "DISZ") l (no (codes "DISZ") refl) ls k)
          (last_of-new (codes "GLAS") ls l h k)
          (old (codes "DIAM") l (no (codes "DIAM") refl) ls k)
          (λ i. old_coefficients l (no (codes "PARM") refl) ls i k);
    }

pub DIAM-changes : (l : Words) → has_tag (codes "DIAM") l ≡ true → Changes is_SURF surface_of l (with_DIAM l)
DIAM-changes l h =
    let no = other (codes "DIAM") l h in
    record {
      inner = no (codes "SURF") refl;
      made = λ head ls k. surface_by
          (old (codes "TYPE") l (no (codes "TYPE") refl) ls k)
          (old (codes "CURV") l (no (codes "CURV") refl) ls k)
          (old (codes "CONI") l (no (codes "CONI") refl) ls k)
          (old (codes "DISZ") l (no (codes "DISZ") refl) ls k)
          (old (codes "GLAS") l (no (codes "GLAS") refl) ls k)
          (last_of-new (codes "DIAM") ls l h k)
          (λ i. old_coefficients l (no (codes "PARM") refl) ls i k);
    }

-- the coefficients with one more line, whose index is k
new_coefficients : (l : Words) → has_tag (codes "PARM") l ≡ true → (k : ℕ) → ((i : ℕ) → is_number i (word_at 1 l) ≡ nat_eq k i)
    → (ls : List Words) (i : ℕ) → coefficient_in i (ls ++ l ∷ []) ≡ (if nat_eq k i then decimal_at 2 l else coefficient_in i ls)
new_coefficients l h k e ls i =
    ap (decimal_in 2) (last_of_index-new (codes "PARM") i k ls l h (e i))
    ∙ elim (nat_eq k i) as (λ b. decimal_in 2 (if b then Some l else last_of_index (codes "PARM") i ls) ≡ (if b then decimal_at 2 l else coefficient_in i ls)) [ true ↦ refl | false ↦ refl ]

pub PARM-changes : (l : Words) (k : ℕ) → has_tag (codes "PARM") l ≡ true → ((i : ℕ) → is_number i (word_at 1 l) ≡ nat_eq k i)
    → Changes is_SURF surface_of l (with_coefficient k (decimal_at 2 l))
PARM-changes l n h e =
    let no = other (codes "PARM") l h in
    record {
      inner = no (codes "SURF") refl;
      made = λ head ls k. surface_by
          (old (codes "TYPE") l (no (codes "TYPE") refl) ls k)
          (old (codes "CURV") l (no (codes "CURV") refl) ls k)
          (old (codes "CONI") l (no (codes "CONI") refl) ls k)
          (old (codes "DISZ") l (no (codes "DISZ") refl) ls k)
          (old (codes "GLAS") l (no (codes "GLAS") refl) ls k)
          (old (codes "DIAM") l (no (codes "DIAM") refl) ls k)
          (λ i. new_coefficients l h n e ls i k);
    }
