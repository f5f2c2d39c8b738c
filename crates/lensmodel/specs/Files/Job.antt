-- A job: what its lines ask for. Cited by the reader of jobs and by the outcome of a call. A line is its list of words, and a
-- remark has none.
use Rattle.std.specs.Prelude.{ℕ, ℤ, pos, negsuc, nat_lt, List, [], ◌∷◌, ◌++◌, codes, Option, Some, None, Result, unwrap_or, if◌then◌else◌}
use Rattle.fixdec.specs.Decimal.{Decimal}
use Rattle.lensmodel.specs.Files.Causes.{or_first, fault_if, ok_unless}
use Rattle.lensmodel.specs.Files.JobFaults.{is_WAVE, is_RES, is_WIDTH, is_PUPIL, whole_number, offence}
use Rattle.lensmodel.specs.Files.Records.{Words, has_tag, last_where, decimal_at, each_record, first_offence, said_by}
use Rattle.lensmodel.specs.Files.TextLines.{text}
use Rattle.lensmodel.specs.Setup.Launches.{job_count}
use Rattle.lensmodel.specs.declared.fault.JobFault.{JobFault}
use Rattle.lensmodel.specs.declared.fault.JobFault.TheVariants.{Text, TooManyRays}
use Rattle.lensmodel.specs.declared.job.Ask.{Ask}
use Rattle.lensmodel.specs.declared.job.Ask.TheVariants.{Ray, Aim, Fan, Spot, First, Seidel}
use Rattle.lensmodel.specs.declared.job.Job.{Job}

-- ---- the settings, each by its one line, or by default
-- the wavelength in micrometres: without a WAVE line the lens gives it
abbrev pub wave_in : Option Words → Option Decimal
wave_in (Some wave) = Some (decimal_at 1 wave)
wave_in None = None

-- the whole number of the word at k, counted from 0; one below 0 is in no range
abbrev pub natural : Option ℤ → ℕ
natural (Some (pos n)) = n
natural (Some (negsuc n)) = 0
natural None = 0

abbrev pub number_at : ℕ → Words → ℕ
number_at k line = natural (whole_number k line)

-- the residual number: 12 by default
abbrev pub residual_in : Option Words → ℕ
residual_in (Some res) = number_at 1 res
residual_in None = 12

-- the width bound: 0.001 by default
abbrev pub width_in : Option Words → Decimal
width_in (Some width) = decimal_at 1 width
width_in None = record { mant = pos 1; exp = negsuc 2 }

-- ---- the asks
-- the pupil in force behind some lines: their last PUPIL line
abbrev pub pupil_behind : List Words → Words
pupil_behind lines = unwrap_or (last_where is_PUPIL lines) []

-- what a line asks for under a pupil; all other lines ask for nothing
abbrev pub ask_of : Words → Words → Option Ask
ask_of pupil line =
    let z = decimal_at 1 pupil in
    let r = decimal_at 2 pupil in
    let first = decimal_at 1 line in
    let second = decimal_at 2 line in
    let third = decimal_at 3 line in
    let fourth = decimal_at 4 line in
    if has_tag (codes "RAY") line then Some (Ray first second third fourth)
    else if has_tag (codes "AIM") line then Some (Aim first second third fourth z r)
    else if has_tag (codes "FAN") line then Some (Fan first second (number_at 3 line) z r)
    else if has_tag (codes "SPOT") line then Some (Spot first second (number_at 3 line) z r)
    else if has_tag (codes "FIRST") line then Some (First first second)
    else if has_tag (codes "SEIDEL") line then Some (Seidel first second third fourth)
    else None

abbrev pub with_ask : Option Ask → List Ask → List Ask
with_ask (Some a) asks = a ∷ asks
with_ask None asks = asks

-- the asks of some lines, in order, each with the pupil in force. before are the lines before them
abbrev pub asks_behind : List Words → List Words → List Ask
asks_behind before [] = []
asks_behind before (l ∷ more) = with_ask (ask_of (pupil_behind before) l) (asks_behind (before ++ l ∷ []) more)

abbrev pub all_asks : List Words → List Ask
all_asks lines = asks_behind [] lines

-- ---- the job
abbrev pub job_of : List Words → Job
job_of lines = record {
  wave = wave_in (last_where is_WAVE lines);
  res = residual_in (last_where is_RES lines);
  width = width_in (last_where is_WIDTH lines);
  asks = all_asks lines;
}

-- more than 10,000 rays in all
abbrev pub rays_fault : List Ask → Option JobFault
rays_fault asks = fault_if (nat_lt 10_000 (job_count asks)) TooManyRays

-- the fault of the first line that offends, else that of all rays, else the job
abbrev pub of_lines : List Words → Result Job JobFault
of_lines lines = ok_unless (or_first (first_offence offence 1 [] lines) (rays_fault (all_asks lines))) (job_of lines)

unfoldable pub job : List ℕ → Result Job JobFault
job bytes = said_by Text (λ lines. of_lines (each_record lines)) (text bytes)
