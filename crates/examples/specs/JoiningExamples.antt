-- Lenses, books and jobs that join, and cross checks that refuse them.
use Rattle.std.specs.Prelude.{◌≡◌, ℕ, pos, negsuc, codes, List, [], ◌∷◌, map, Option, Some, None, Ok, Err}
use Rattle.fixdec.specs.Decimal.{Decimal}
use Rattle.lensmodel.specs.Files.Joining.{joined}
use Rattle.examples.specs.SmallLenses.{dec, tenths, toleranced}
use Rattle.examples.specs.Worked.{flat_glass, far_object, plane_setup, mirror_setup}
use Rattle.lensmodel.specs.Setup.Values.{plane, zero_decimal}
use Rattle.lensmodel.specs.declared.fault.CrossFault.TheVariants.{NoGlass, Formula, NoWave, WaveRange, BadIndex, MirrorIndex}
use Rattle.lensmodel.specs.declared.job.Job.{Job}
use Rattle.lensmodel.specs.declared.prescription.Prescription.{Prescription}

-- a job without rays
abbrev pub job_of : Option Decimal → Job
job_of wave = record { wave = wave; res = 12; width = dec (pos 1) (negsuc 2); asks = [] }

abbrev pub at_half : Job
at_half = job_of (Some (tenths (pos 5)))

-- a plane with the glass of a name behind it
abbrev pub named : List ℕ → Prescription
named name = record plane_setup.lens { surfaces = record { items = far_object ∷ record plane { glass = Some (record { items = name }) } ∷ plane ∷ [] } }

-- a plane in air, with two wavelengths of which the one of a number is the primary
abbrev pub with_waves : ℕ → Prescription
with_waves primary = record plane_setup.lens { waves = record { items = Some zero_decimal ∷ Some (tenths (pos 5)) ∷ None ∷ [] }; primary = primary }

-- the job's wavelength, or the lens's primary one, which is above 0
abbrev pub Wavelengths : Type 0
Wavelengths =
    map (λ lens. joined lens [] (job_of None) None) (with_waves 0 ∷ with_waves 1 ∷ with_waves 2 ∷ with_waves 3 ∷ with_waves 4 ∷ [])
    ≡ Err NoWave ∷ Err NoWave ∷ Ok (record plane_setup { lens = with_waves 2 }) ∷ Err NoWave ∷ Err NoWave ∷ []

-- a glass that the book hasn't, one whose formula isn't used, and one whose range begins above the wavelength
abbrev pub Glasses : Type 0
Glasses =
    map (λ g. joined (named (codes "flat")) (g ∷ []) at_half None)
    (record flat_glass { name = record { items = codes "FLAT2" } } ∷ record flat_glass { formula = 3 } ∷ record flat_glass { low = Some (tenths (pos 6)) } ∷ [])
    ≡ Err (NoGlass 1) ∷ Err (Formula 1) ∷ Err (WaveRange 1) ∷ []

-- a tolerance on air, and one on the index of a mirror
abbrev pub Tolerances : Type 0
Tolerances =
    map (λ lens. joined lens [] at_half (toleranced 1 zero_decimal).toler) (plane_setup.lens ∷ mirror_setup.lens ∷ [])
    ≡ Ok (toleranced 1 zero_decimal) ∷ Err (MirrorIndex 1) ∷ []

abbrev pub WideTolerance : Type 0
WideTolerance = joined plane_setup.lens [] at_half (toleranced 1 (tenths (pos 1))).toler ≡ Err (BadIndex 1)
