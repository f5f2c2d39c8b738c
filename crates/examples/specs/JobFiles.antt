-- Jobs and tolerance boxes worked out: what they say, and why others are refused.
use Rattle.std.specs.Prelude.{◌≡◌, ℕ, pos, negsuc, true, false, is_ok, codes, List, [], ◌∷◌, map, Some, Ok, Err}
use Rattle.fixdec.specs.Decimal.{Decimal}
use Rattle.lensmodel.specs.Files.Job.{job}
use Rattle.lensmodel.specs.Files.Tolerances.{tolerance_box}
use Rattle.lensmodel.specs.Setup.Values.{zero_decimal}
use Rattle.lensmodel.specs.declared.fault.JobFault.TheVariants.{Word, BadNumber, Missing, Range, TooManyRays}
use Rattle.lensmodel.specs.declared.fault.TolFault.TheVariants as tol
use Rattle.lensmodel.specs.declared.job.Ask.TheVariants.{Ray, Aim, Fan, Spot, First, Seidel}
use Rattle.lensmodel.specs.declared.tolerance.Tol.{Tol}
use Rattle.lensmodel.specs.declared.tolerance.TolKind.{TolKind}
use Rattle.lensmodel.specs.declared.tolerance.TolKind.TheVariants.{Curv, Thic, Indx}
use Rattle.examples.specs.SmallLenses.{dec, whole_dec, tenths}
use Rattle.examples.specs.TextOfLines.{file}

-- each cause, and in one line the first
abbrev pub JobFaults : Type 0
JobFaults =
    map (λ lines. job (file lines))
    ((codes "WAVE 0" ∷ []) ∷ (codes "WAVE 1 1" ∷ []) ∷ (codes "WAVE 1" ∷ codes "! x" ∷ codes "WAVE x" ∷ [])
    ∷ (codes "ray 0 0 0 0" ∷ []) ∷ (codes "RES 4.5" ∷ []) ∷ (codes "RES -1" ∷ []) ∷ (codes "RES 15" ∷ [])
    ∷ (codes "WIDTH 1000.1" ∷ []) ∷ (codes "PUPIL 0 -1" ∷ []) ∷ (codes "AIM 0 0 0 x" ∷ []) ∷ (codes "AIM 0 0 0 0" ∷ [])
    ∷ (codes "FAN 0 0 0.5" ∷ []) ∷ (codes "FAN 0 0 0" ∷ []) ∷ (codes "PUPIL 0 1" ∷ codes "FAN 0 0 1001" ∷ [])
    ∷ (codes "PUPIL 0 1" ∷ codes "SPOT 0 0 61" ∷ []) ∷ (codes "PUPIL 0 1" ∷ codes "SPOT 0 0 49" ∷ codes "FAN 0 0 50" ∷ [])
    ∷ (codes " ! x" ∷ []) ∷ (codes "#" ∷ codes "SEIDEL 1 2 3" ∷ []) ∷ [])
    ≡ Err (Range 1) ∷ Err (Word 1) ∷ Err (Word 3) ∷ Err (Word 1) ∷ Err (BadNumber 1) ∷ Err (Range 1) ∷ Err (Range 1)
    ∷ Err (Range 1) ∷ Err (Range 1) ∷ Err (BadNumber 1) ∷ Err (Missing 1) ∷ Err (BadNumber 1) ∷ Err (Missing 1)
    ∷ Err (Range 2) ∷ Err (Range 2) ∷ Err TooManyRays ∷ Err (Word 1) ∷ Err (Word 2) ∷ []

-- the pupil in force stands in each ask that needs one; a remark is passed over
abbrev pub job_lines : List (List ℕ)
job_lines =
    codes "# all" ∷ codes "WIDTH 0.5" ∷ codes "RAY 1 2 3 4" ∷ codes "PUPIL 5 6" ∷ codes "AIM 1 2 3 4"
    ∷ codes "FAN 1 2 3" ∷ codes "PUPIL 7 8" ∷ codes "SPOT 1 2 4e0" ∷ codes "FIRST 1 2" ∷ codes "!"
    ∷ codes "SEIDEL 1 2 3 4" ∷ codes "WAVE 0.55" ∷ []

abbrev pub ReadJob : Type 0
ReadJob =
    job (file job_lines)
    ≡ Ok (record {
      wave = Some (dec (pos 55) (negsuc 1));
      res = 12;
      width = tenths (pos 5);
      asks =
          Ray (whole_dec (pos 1)) (whole_dec (pos 2)) (whole_dec (pos 3)) (whole_dec (pos 4))
          ∷ Aim (whole_dec (pos 1)) (whole_dec (pos 2)) (whole_dec (pos 3)) (whole_dec (pos 4)) (whole_dec (pos 5)) (whole_dec (pos 6))
          ∷ Fan (whole_dec (pos 1)) (whole_dec (pos 2)) 3 (whole_dec (pos 5)) (whole_dec (pos 6))
          ∷ Spot (whole_dec (pos 1)) (whole_dec (pos 2)) 4 (whole_dec (pos 7)) (whole_dec (pos 8))
          ∷ First (whole_dec (pos 1)) (whole_dec (pos 2))
          ∷ Seidel (whole_dec (pos 1)) (whole_dec (pos 2)) (whole_dec (pos 3)) (whole_dec (pos 4))
          ∷ [];
    })

-- 9801 and 198 rays and one more make 10,000, which are the most
abbrev pub MostRays : Type 0
MostRays =
    map (λ lines. is_ok (job (file lines)))
    ((codes "PUPIL 0 1" ∷ codes "SPOT 0 0 49" ∷ codes "FAN 0 0 49" ∷ [])
    ∷ (codes "PUPIL 0 1" ∷ codes "SPOT 0 0 49" ∷ codes "FAN 0 0 49" ∷ codes "RAY 0 0 0 0" ∷ [])
    ∷ (codes "PUPIL 0 1" ∷ codes "SPOT 0 0 49" ∷ codes "FAN 0 0 50" ∷ []) ∷ [])
    ≡ true ∷ true ∷ false ∷ []

abbrev pub tolerance : TolKind → ℕ → Decimal → Tol
tolerance kind surface delta = record { kind = kind; surface = surface; delta = delta }

-- for a lens of three surfaces, each cause, and in one line the first
abbrev pub BoxFaults : Type 0
BoxFaults =
    map (λ lines. tolerance_box (file lines) 2)
    ((codes "TOL CURV 1" ∷ []) ∷ (codes "TOL CONI 1 1" ∷ []) ∷ (codes "TOL CURV 1.5 1" ∷ []) ∷ (codes "TOL CURV 1 x" ∷ [])
    ∷ (codes "TOL CURV 3 -1" ∷ []) ∷ (codes "TOL CURV 0 0" ∷ []) ∷ (codes "TOL THIC 2 0" ∷ []) ∷ (codes "TOL INDX 2 0" ∷ [])
    ∷ (codes "TOL INDX 0 0" ∷ codes "!" ∷ codes "TOL CURV 2 1e-3" ∷ codes "TOL CURV 2 0" ∷ []) ∷ [])
    ≡ Err (tol.Word 1) ∷ Err (tol.Word 1) ∷ Err (tol.BadNumber 1) ∷ Err (tol.BadNumber 1) ∷ Err (tol.Negative 1) ∷ Err (tol.NoSurface 1)
    ∷ Err (tol.NoSurface 1) ∷ Err (tol.NoSurface 1) ∷ Err (tol.Twice 4) ∷ []

abbrev pub ReadBox : Type 0
ReadBox =
    tolerance_box (file (codes "TOL INDX 1 0" ∷ codes "TOL THIC 1 1" ∷ [] ∷ codes "TOL CURV 1 2" ∷ codes "TOL CURV 2 3" ∷ [])) 2
    ≡ Ok (record { list = record { items = tolerance Indx 1 zero_decimal ∷ tolerance Thic 1 (whole_dec (pos 1)) ∷ tolerance Curv 1 (whole_dec (pos 2)) ∷ tolerance Curv 2 (whole_dec (pos 3)) ∷ [] } })
