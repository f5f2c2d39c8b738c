-- What one record changes in its surface, field by field. A line is its list of words.
use Rattle.std.specs.Prelude.{ℕ, nat_eq, List, codes, Option, Some, None, if◌then◌else◌}
use Rattle.fixdec.specs.Decimal.{Decimal}
use Rattle.lensmodel.specs.Files.Lens.{kind_in, decimal_in, thickness_in, glass_in, mirror_in, semi_in, rim_in}
use Rattle.lensmodel.specs.Files.LensFaults.{index_of, is_asphere, is_mirror}
use Rattle.lensmodel.specs.Files.Records.{Words, same_word, has_tag, word_at, decimal_at, number_or_0}
use Rattle.lensmodel.specs.declared.surface.Surface.{Surface}
use Rattle.lensmodel.specs.declared.surface.SurfaceKind.{SurfaceKind}
use Rattle.lensmodel.specs.declared.surface.SurfaceKind.TheVariants.{Standard, EvenAsph}

abbrev pub with_TYPE : Words → Surface → Surface
with_TYPE line f = record f { kind = kind_in (Some line) }

abbrev pub with_CURV : Words → Surface → Surface
with_CURV line f = record f { curv = decimal_in 1 (Some line) }

abbrev pub with_CONI : Words → Surface → Surface
with_CONI line f = record f { conic = decimal_in 1 (Some line) }

abbrev pub with_DISZ : Words → Surface → Surface
with_DISZ line f = record f { thick = thickness_in (Some line) }

abbrev pub with_GLAS : Words → Surface → Surface
with_GLAS line f = record f { glass = glass_in (Some line); mirror = mirror_in (Some line) }

abbrev pub with_DIAM : Words → Surface → Surface
with_DIAM line f = record f { semi = semi_in (Some line); rim = rim_in (Some line) }

-- a surface whose coefficient a_i is another; without such a coefficient it stays as it is
abbrev pub with_coefficient : ℕ → Decimal → Surface → Surface
with_coefficient i a f = record f {
  a1 = if nat_eq i 1 then a else f.a1;
  a2 = if nat_eq i 2 then a else f.a2;
  a3 = if nat_eq i 3 then a else f.a3;
  a4 = if nat_eq i 4 then a else f.a4;
  a5 = if nat_eq i 5 then a else f.a5;
  a6 = if nat_eq i 6 then a else f.a6;
  a7 = if nat_eq i 7 then a else f.a7;
  a8 = if nat_eq i 8 then a else f.a8;
}

abbrev pub with_PARM : Words → Surface → Surface
with_PARM line f = with_coefficient (number_or_0 (index_of (word_at 1 line))) (decimal_at 2 line) f

-- the form of a type
abbrev pub kind_if : List ℕ → Option SurfaceKind
kind_if word = if same_word word (codes "STANDARD") then Some Standard else if is_asphere word then Some EvenAsph else None

-- a surface with a glass, or a mirror, behind it
abbrev pub with_medium : List ℕ → Surface → Surface
with_medium word f = record f {
  glass = if is_mirror word then None else Some (record { items = word });
  mirror = is_mirror word;
}

-- a surface after a line of its block
abbrev pub with_field : Words → Surface → Surface
with_field line f =
    if has_tag (codes "TYPE") line then with_TYPE line f
    else if has_tag (codes "CURV") line then with_CURV line f
    else if has_tag (codes "DISZ") line then with_DISZ line f
    else if has_tag (codes "GLAS") line then with_GLAS line f
    else if has_tag (codes "DIAM") line then with_DIAM line f
    else if has_tag (codes "CONI") line then with_CONI line f
    else if has_tag (codes "PARM") line then with_PARM line f
    else f
