-- The command index: its words, its file, its answer, and what the printed index means. Cited by the outcome of a call.
use Rattle.std.specs.Prelude.{◌≡◌, ℕ, nat_le, int_lt, pos, List, [], ◌∷◌, length, Option, None, Some, Ok, if◌then◌else◌}
use Rattle.fixdec.specs.Decimal.{Decimal}
use Rattle.fixdec.specs.Ends.{Ends}
use Rattle.fixdec.specs.Frac.{Frac}
use Rattle.fixdec.specs.Member.{IsMember}
use Rattle.fixdec.specs.Reading.{decimal_of}
use Rattle.lensmodel.specs.Call.Answer.{Contents, Named, Answer, answer, on_checked}
use Rattle.lensmodel.specs.Call.Inputs.{on_catalogue}
use Rattle.lensmodel.specs.Equations.Dispersion.{IsGlassIndex}
use Rattle.lensmodel.specs.Equations.Residual.{residual}
use Rattle.lensmodel.specs.Files.Catalogue.{catalogue, find_glass}
use Rattle.lensmodel.specs.Files.Picking.{picked}
use Rattle.lensmodel.specs.Texts.Index.{index_line}
use Rattle.lensmodel.specs.declared.glass.Glass.{Glass}
use Rattle.lensmodel.specs.declared.status.FileKind.TheVariants.{Agf}
use Rattle.lensmodel.specs.declared.status.Status.TheVariants.{Done}

-- AGF GLASS WAVE
pub record Index : Type 0 where
  pub agf : List ℕ
  pub name : List ℕ
  pub wave : Decimal

-- a decimal above 0 of at most 64 bytes
abbrev pub positive_if : Option Decimal → Option Decimal
positive_if None = None
positive_if (Some d) = if int_lt (pos 0) d.mant then Some d else None

abbrev pub positive_decimal : List ℕ → Option Decimal
positive_decimal w = if nat_le (length w) 64 then positive_if (decimal_of w) else None

-- a glass of at most 40 bytes, and a wavelength
abbrev pub index_if : List ℕ → List ℕ → Option Decimal → Option Index
index_if agf name None = None
index_if agf name (Some wave) = if nat_le (length name) 40 then Some (record { agf = agf; name = name; wave = wave }) else None

abbrev pub index_words : List (List ℕ) → Option Index
index_words (agf ∷ name ∷ wave ∷ []) = index_if agf name (positive_decimal wave)
index_words words = None

abbrev pub index_named : Index → Named
index_named c = (Agf, c.agf) ∷ []

-- the glass of the name, refused by its cross check, or the line of its index
abbrev pub index_answer : Contents → Index → Answer
index_answer files c =
    on_catalogue files c.agf (λ book. on_checked (picked book c.name c.wave) (λ p. answer Done (index_line p.glass.name.items c.wave p.index)))

-- the text is the line of an interval for the first glass of the name in the catalogue held by the file's name; and each
-- fraction above 0 whose square is that glass's formula at the wavelength, within 10^-12, lies between the interval's ends
pub record PrintsIndex (files : Contents) (c : Index) (text : List ℕ) : Type 0 where
  pub bytes : List ℕ
  pub book : List Glass
  pub found : Glass
  pub ends : Ends
  pub held : files Agf c.agf ≡ Some bytes
  pub read : catalogue bytes ≡ Ok book
  pub first : find_glass c.name book ≡ Some found
  pub printed : text ≡ index_line found.name.items c.wave ends
  pub holds : (n : Frac) → IsGlassIndex (residual 12) found c.wave n → IsMember 12 ends n
