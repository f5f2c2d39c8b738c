-- The cross checks of one surface, or of the medium behind it. Cited by the checks over all surfaces before the image.
use Rattle.std.specs.Prelude.{ℕ, ◌&&◌, not, List, Option, is_none}
use Rattle.fixdec.specs.Decimal.{Decimal}
use Rattle.lensmodel.specs.Files.Causes.{fault_if}
use Rattle.lensmodel.specs.Files.Joining.{medium_behind, has_used_formula, is_outside, has_good_index}
use Rattle.lensmodel.specs.Setup.Media.{has_tolerance}
use Rattle.lensmodel.specs.declared.fault.CrossFault.{CrossFault}
use Rattle.lensmodel.specs.declared.fault.CrossFault.TheVariants.{NoGlass, Formula, WaveRange, BadIndex, MirrorIndex}
use Rattle.lensmodel.specs.declared.glass.Glass.{Glass}
use Rattle.lensmodel.specs.declared.glass.Medium.{Medium}
use Rattle.lensmodel.specs.declared.setup.Setup.{Setup}
use Rattle.lensmodel.specs.declared.surface.Surface.{Surface}
use Rattle.lensmodel.specs.declared.tolerance.Tol.{Tol}
use Rattle.lensmodel.specs.declared.tolerance.TolKind.TheVariants.{Indx}

-- the book hasn't the glass that surface j names
abbrev pub glass_fault : List Glass → ℕ → Surface → Option CrossFault
glass_fault book j f = fault_if (is_none (medium_behind book f)) (NoGlass j)

-- the formula of the medium behind surface j isn't used
abbrev pub formula_fault : ℕ → Medium → Option CrossFault
formula_fault j m = fault_if (not (has_used_formula m)) (Formula j)

-- the wavelength lies outside the range of the medium behind surface j
abbrev pub range_fault : Decimal → ℕ → Medium → Option CrossFault
range_fault wave j m = fault_if (is_outside wave m) (WaveRange j)

-- surface j is no mirror, and the index behind it isn't from 1 to 5
abbrev pub index_fault : Setup → ℕ → Surface → Option CrossFault
index_fault s j f = fault_if (not f.mirror && not (has_good_index s j)) (BadIndex j)

-- surface j is a mirror, and a tolerance stands on the index behind it
abbrev pub mirror_fault : List Tol → ℕ → Surface → Option CrossFault
mirror_fault list j f = fault_if (f.mirror && has_tolerance list Indx j) (MirrorIndex j)
