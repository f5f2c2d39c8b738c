-- Well-formed setups: what the trace of a ray takes for granted. Cited by every call that takes a setup.
use Rattle.std.specs.Prelude.{ℕ, ◌≡◌, ◌<◌, ◌≤◌, neg_ℤ, pos, ◌≤ℤ◌, not, List, length, slice_index_or, All, AllPairs, IsTrue, Option, Some, None}
use Rattle.fixdec.specs.Decimal.{Decimal}
use Rattle.lensmodel.specs.Equations.Dispersion.{IsKnown}
use Rattle.lensmodel.specs.Files.Joining.{has_good_index}
use Rattle.lensmodel.specs.Setup.Launches.{job_count}
use Rattle.lensmodel.specs.Setup.Media.{has_tolerance}
use Rattle.lensmodel.specs.Setup.Ranges.{is_positive, is_not_negative, is_wave, is_residual, is_width, is_ask, has_place}
use Rattle.lensmodel.specs.Setup.Values.{image, reflects, stands_on, tolerances}
use Rattle.lensmodel.specs.Setup.WholeFaults.{whole_fault}
use Rattle.lensmodel.specs.declared.glass.Medium.TheVariants.{Air}
use Rattle.lensmodel.specs.declared.job.Job.{Job}
use Rattle.lensmodel.specs.declared.prescription.Prescription.{Prescription}
use Rattle.lensmodel.specs.declared.setup.Setup.{Setup}
use Rattle.lensmodel.specs.declared.surface.Surface.{Surface}
use Rattle.lensmodel.specs.declared.tolerance.Tol.{Tol}
use Rattle.lensmodel.specs.declared.tolerance.TolKind.TheVariants.{Indx}

-- a decimal as a word gives it has an exponent from -60 to 30
pub record IsWritten (d : Decimal) : Type 0 where
  pub low : neg_ℤ (pos 60) ≤ℤ d.exp
  pub high : d.exp ≤ℤ pos 30

abbrev pub IsWrittenIf : Option Decimal → Type 0
IsWrittenIf None = Unit {0}
IsWrittenIf (Some d) = IsWritten d

-- each number of a surface is written so
pub record IsWrittenSurface (f : Surface) : Type 0 where
  pub curv : IsWritten f.curv
  pub conic : IsWritten f.conic
  pub thick : IsWrittenIf f.thick
  pub semi : IsWrittenIf f.semi
  pub a1 : IsWritten f.a1
  pub a2 : IsWritten f.a2
  pub a3 : IsWritten f.a3
  pub a4 : IsWritten f.a4
  pub a5 : IsWritten f.a5
  pub a6 : IsWritten f.a6
  pub a7 : IsWritten f.a7
  pub a8 : IsWritten f.a8

-- each number of a prescription is written so
pub record IsWrittenLens (lens : Prescription) : Type 0 where
  pub surfaces : All IsWrittenSurface lens.surfaces.items
  pub waves : All IsWrittenIf lens.waves.items

-- a prescription that a trace can use: without a whole fault, each number written so
pub record IsSound (lens : Prescription) : Type 0 where
  pub whole : whole_fault lens ≡ None
  pub written : IsWrittenLens lens

-- a job whose numbers are in their ranges, with at most 10,000 rays in all
pub record IsInRange (job : Job) : Type 0 where
  pub wave : IsTrue (is_wave job.wave)
  pub residual : IsTrue (is_residual job.res)
  pub width : IsTrue (is_width job.width)
  pub asks : All (λ a. IsTrue (is_ask a)) job.asks
  pub rays : job_count job.asks ≤ 10_000

-- tolerances that make a box, by the number of the image: at most 32, none below 0, each on a surface that has such a value,
-- and no two on the same value
pub record IsBox (image : ℕ) (list : List Tol) : Type 0 where
  pub count : length list ≤ 32
  pub deltas : All (λ t. IsTrue (is_not_negative t.delta)) list
  pub places : All (λ t. IsTrue (has_place image t.kind t.surface)) list
  pub once : AllPairs (λ t u. IsTrue (not (stands_on t.kind t.surface u))) list

-- one medium for each surface before the image: air, or a glass whose formula is used; that of a mirror is air
pub record HasMedia (s : Setup) : Type 0 where
  pub count : length s.media.items ≡ image s
  pub known : All IsKnown s.media.items
  pub mirrors : (j : ℕ) → IsTrue (reflects s j) → slice_index_or s.media.items j Air ≡ Air

-- the box of a setup, and no tolerance on the index of a mirror
pub record HasBox (s : Setup) : Type 0 where
  pub box : IsBox (image s) (tolerances s.toler)
  pub mirrors : (j : ℕ) → IsTrue (reflects s j) → IsTrue (not (has_tolerance (tolerances s.toler) Indx j))

-- the index behind surface j in intervals at scale 12, with its tolerance, lies from 1 to 5
abbrev pub HasGoodIndex : Setup → ℕ → Type 0
HasGoodIndex s j = IsTrue (has_good_index s j)

pub record IsWellFormed (s : Setup) : Type 0 where
  pub lens : IsSound s.lens
  pub media : HasMedia s
  pub wave : IsTrue (is_positive s.wave)
  pub residual : IsTrue (is_residual s.res)
  pub width : IsTrue (is_width s.width)
  pub toler : HasBox s
  pub index : (j : ℕ) → j < image s → IsTrue (not (reflects s j)) → HasGoodIndex s j
