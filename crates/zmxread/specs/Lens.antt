-- What one record changes in a whole lens. A line is its list of words.
use Rattle.std.specs.Prelude.{ℕ, zero, suc, List, [], slice_set, Option, Some}
use Rattle.fixdec.specs.Decimal.{Decimal}
use Rattle.lensmodel.specs.Files.Lens.{wavelengths}
use Rattle.lensmodel.specs.Files.LensFaults.{index_of}
use Rattle.lensmodel.specs.Files.Records.{Words, word_at, decimal_at, number_or_0}

-- the wavelengths of no lines
abbrev pub no_waves : List (Option Decimal)
no_waves = wavelengths []

-- the wavelengths where that of number i is another; there is none of number 0
abbrev pub with_wavelength : ℕ → Decimal → List (Option Decimal) → List (Option Decimal)
with_wavelength zero wave waves = waves
with_wavelength (suc i) wave waves = slice_set waves i (Some wave)

abbrev pub with_WAVM : Words → List (Option Decimal) → List (Option Decimal)
with_WAVM line waves = with_wavelength (number_or_0 (index_of (word_at 1 line))) (decimal_at 2 line) waves
