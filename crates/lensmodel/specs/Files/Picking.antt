-- The glass of a name in a book, and its index at a wavelength, as the command index judges and prints it.
-- Cited by the cross checks and by the command index.
use Rattle.std.specs.Prelude.{ℕ, pos, Bool, false, ◌&&◌, int_le, not, List, Option, Some, None, Result, Ok, Err, if◌then◌else◌}
use Rattle.fixdec.specs.Decimal.{Decimal}
use Rattle.fixdec.specs.Ends.{Ends}
use Rattle.fixdec.specs.IntervalOperations.{operations}
use Rattle.fixdec.specs.Scaled.{dec_span}
use Rattle.fixdec.specs.Steps.{◌>>=◌}
use Rattle.fixdec.specs.declared.step.Step.{Step}
use Rattle.fixdec.specs.declared.step.Step.TheVariants.{Val, Empty, Lost}
use Rattle.lensmodel.specs.Files.Catalogue.{find_glass, is_used}
pub use Rattle.lensmodel.specs.Setup.Comparison.{is_below, is_below_decimal}
use Rattle.lensmodel.specs.Rows.Index.{index_rows}
use Rattle.lensmodel.specs.declared.fault.CrossFault.{CrossFault}
use Rattle.lensmodel.specs.declared.fault.CrossFault.TheVariants.{NoGlass, Formula, WaveRange, BadIndex}
use Rattle.lensmodel.specs.declared.glass.Glass.{Glass}
use Rattle.lensmodel.specs.declared.glass.Medium.{Medium}
use Rattle.lensmodel.specs.declared.glass.Medium.TheVariants.{Of}

-- whether a wavelength is below a least, or above a greatest, where one is given
abbrev pub is_under : Decimal → Option Decimal → Bool
is_under wave None = false
is_under wave (Some low) = is_below_decimal wave low

abbrev pub is_over : Decimal → Option Decimal → Bool
is_over wave None = false
is_over wave (Some high) = is_below_decimal high wave

-- the index of a glass at a wavelength in intervals at scale 12, the residual being one unit
abbrev pub index_at_12 : Glass → Decimal → Step Ends
index_at_12 g wave = dec_span 12 wave >>= λ a. index_rows (operations 12) 12 (Of g) a (pos 1)

-- both ends from 1 to 5 at scale 12
abbrev pub is_from_1_to_5 : Ends → Bool
is_from_1_to_5 n = int_le (pos 1_000_000_000_000) n.lo && int_le n.hi (pos 5_000_000_000_000)

abbrev pub is_good_index : Step Ends → Bool
is_good_index (Val n) = is_from_1_to_5 n
is_good_index Empty = false
is_good_index (Lost why) = false

-- a glass with its index
pub record Picked : Type 0 where
  pub glass : Glass
  pub index : Ends

-- a glass whose index is good; as surface 0
abbrev pub with_index : Glass → Step Ends → Result Picked CrossFault
with_index g (Val n) = if is_from_1_to_5 n then Ok (record { glass = g; index = n }) else Err (BadIndex 0)
with_index g Empty = Err (BadIndex 0)
with_index g (Lost why) = Err (BadIndex 0)

-- a glass with its index, or the first reason in order why it can't be used at the wavelength
abbrev pub usable : Glass → Decimal → Result Picked CrossFault
usable g wave =
    if not (is_used g.formula) then Err (Formula 0)
    else if is_under wave g.low then Err (WaveRange 0)
    else if is_over wave g.high then Err (WaveRange 0)
    else with_index g (index_at_12 g wave)

abbrev pub usable_if_found : Option Glass → Decimal → Result Picked CrossFault
usable_if_found None wave = Err (NoGlass 0)
usable_if_found (Some g) wave = usable g wave

-- the glass of a name, compared after ASCII upper-casing, where it can be used at the wavelength
unfoldable pub picked : List Glass → List ℕ → Decimal → Result Picked CrossFault
picked book name wave = usable_if_found (find_glass name book) wave

-- the medium of a glass that was picked
abbrev pub picked_medium : Result Picked CrossFault → Result Medium CrossFault
picked_medium (Ok p) = Ok (Of p.glass)
picked_medium (Err fault) = Err fault
