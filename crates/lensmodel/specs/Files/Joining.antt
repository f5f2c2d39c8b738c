-- A lens, a book of glasses, a job and a box put together as a setup, or the first cross check that refuses them.
-- Cited by the cross checks and by the outcome of a call.
use Rattle.std.specs.Option.{option_map, unwrap_or}
use Rattle.std.specs.Prelude.{ℕ, zero, suc, ◌-◌, Bool, true, false, ◌&&◌, ◌||◌, not, List, [], ◌∷◌, ◌++◌, length, take, map, slice_get, Option, Some, None, is_none, Result, if◌then◌else◌}
use Rattle.fixdec.specs.Decimal.{Decimal}
use Rattle.fixdec.specs.IntervalOperations.{operations}
use Rattle.lensmodel.specs.Files.Catalogue.{find_glass, is_used}
use Rattle.lensmodel.specs.Files.Causes.{fault_if, first_fault, each_from, ok_unless}
use Rattle.lensmodel.specs.Rows.Constants.{residual_units}
use Rattle.lensmodel.specs.Setup.Media.{has_tolerance}
use Rattle.lensmodel.specs.Files.Picking.{is_under, is_over, is_good_index}
use Rattle.lensmodel.specs.Rows.Preparation.{index_row}
use Rattle.lensmodel.specs.Setup.Ranges.{is_positive}
use Rattle.lensmodel.specs.Setup.Values.{zero_decimal, tolerances}
use Rattle.lensmodel.specs.declared.fault.CrossFault.{CrossFault}
use Rattle.lensmodel.specs.declared.fault.CrossFault.TheVariants.{NoGlass, Formula, NoWave, WaveRange, BadIndex, MirrorIndex}
use Rattle.lensmodel.specs.declared.glass.Glass.{Glass}
use Rattle.lensmodel.specs.declared.glass.Medium.{Medium}
use Rattle.lensmodel.specs.declared.glass.Medium.TheVariants.{Air, Of}
use Rattle.lensmodel.specs.declared.job.Job.{Job}
use Rattle.lensmodel.specs.declared.prescription.Prescription.{Prescription}
use Rattle.lensmodel.specs.declared.setup.Setup.{Setup}
use Rattle.lensmodel.specs.declared.surface.Surface.{Surface}
use Rattle.lensmodel.specs.declared.tolerance.TolBox.{TolBox}
use Rattle.lensmodel.specs.declared.tolerance.TolKind.TheVariants.{Indx}

-- ---- media
-- the surfaces before the image, from the object on: those marked as mirrors reflect
abbrev pub before_image : Prescription → List Surface
before_image lens = take (length lens.surfaces.items - 1) lens.surfaces.items

-- the medium behind a surface: air at a mirror and where no glass is named; none where the book hasn't the glass
abbrev pub medium_of : List Glass → Bool → Option (List ℕ) → Option Medium
medium_of book true name = Some Air
medium_of book false None = Some Air
medium_of book false (Some name) = option_map Of (find_glass name book)

abbrev pub medium_behind : List Glass → Surface → Option Medium
medium_behind book f = medium_of book f.mirror (option_map (λ n. n.items) f.glass)

abbrev pub media_of : List Glass → Prescription → List Medium
media_of book lens = map (λ f. unwrap_or (medium_behind book f) Air) (before_image lens)

-- whether the formula of a medium is used
abbrev pub has_used_formula : Medium → Bool
has_used_formula Air = true
has_used_formula (Of g) = is_used g.formula

-- whether a wavelength lies outside the range of a medium
abbrev pub is_outside : Decimal → Medium → Bool
is_outside wave Air = false
is_outside wave (Of g) = is_under wave g.low || is_over wave g.high

-- ---- the wavelength: the job's, else the lens's primary one where that is above 0
abbrev pub positive_wave : Option (Option Decimal) → Option Decimal
positive_wave None = None
positive_wave (Some None) = None
positive_wave (Some (Some wave)) = if is_positive wave then Some wave else None

abbrev pub primary_wave : List (Option Decimal) → ℕ → Option Decimal
primary_wave waves zero = None
primary_wave waves (suc i) = positive_wave (slice_get waves i)

abbrev pub wave_of : Option Decimal → Prescription → Option Decimal
wave_of None lens = primary_wave lens.waves.items lens.primary
wave_of (Some wave) lens = Some wave

abbrev pub setup_of : Prescription → List Glass → Job → Option TolBox → Decimal → Setup
setup_of lens book job toler wave =
    record { lens = lens; media = record { items = media_of book lens }; wave = wave; res = job.res; width = job.width; toler = toler }

-- ---- the checks, each over the surfaces before the image in order; all but the last pass over mirrors
-- the book has each glass, each formula is used, and there is a wavelength
abbrev pub glass_faults : Prescription → List Glass → Bool → List (Option CrossFault)
glass_faults lens book has_wave =
    each_from (λ j f. fault_if (is_none (medium_behind book f)) (NoGlass j)) 0 (before_image lens)
    ++ each_from (λ j m. fault_if (not (has_used_formula m)) (Formula j)) 0 (media_of book lens)
    ++ (fault_if (not has_wave) NoWave ∷ [])

-- the index behind surface j in intervals at scale 12, with its tolerance, lies from 1 to 5
abbrev pub has_good_index : Setup → ℕ → Bool
has_good_index s j = is_good_index (index_row (operations 12) 12 s (residual_units 12 s.res) j)

-- the wavelength lies in each range, each index is good, and no tolerance stands on the index of a mirror
abbrev pub index_faults : Setup → List (Option CrossFault)
index_faults s =
    each_from (λ j m. fault_if (is_outside s.wave m) (WaveRange j)) 0 s.media.items
    ++ each_from (λ j f. fault_if (not f.mirror && not (has_good_index s j)) (BadIndex j)) 0 (before_image s.lens)
    ++ each_from (λ j f. fault_if (f.mirror && has_tolerance (tolerances s.toler) Indx j) (MirrorIndex j)) 0 (before_image s.lens)

-- without a wavelength there is always a fault, at the latest NoWave
abbrev pub joined_at : Prescription → List Glass → Job → Option TolBox → Option Decimal → Result Setup CrossFault
joined_at lens book job toler None = ok_unless (first_fault (glass_faults lens book false)) (setup_of lens book job toler zero_decimal)
joined_at lens book job toler (Some wave) =
    let s = setup_of lens book job toler wave in
    ok_unless (first_fault (glass_faults lens book true ++ index_faults s)) s

-- the setup, or the first fault
unfoldable pub joined : Prescription → List Glass → Job → Option TolBox → Result Setup CrossFault
joined lens book job toler = joined_at lens book job toler (wave_of job.wave lens)
