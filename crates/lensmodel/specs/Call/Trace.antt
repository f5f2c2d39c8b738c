-- The command trace: its answer, and what the printed rows and spots mean. Its words are those of a lens, a catalogue, a job,
-- and a box if there is one. Cited by the outcome of a call.
use Rattle.std.specs.Prelude.{◌≡◌, ℕ, ◌+◌, Bool, true, false, List, [], ◌∷◌, ◌++◌, map, All, length}
use Rattle.lensmodel.specs.Call.Answer.{Contents, Answer, answer}
use Rattle.lensmodel.specs.Call.Inputs.{Inputs, AreInputs, on_inputs}
use Rattle.lensmodel.specs.Claims.RowClaims.{RowHolds}
use Rattle.lensmodel.specs.Claims.SpotClaims.{Traced, SpotHolds}
use Rattle.lensmodel.specs.Rows.Ray.{row}
use Rattle.lensmodel.specs.Setup.Launches.{launches, job_launches}
use Rattle.lensmodel.specs.Texts.Rows.{trace_head, rays_lines, spot_line, total_line}
use Rattle.lensmodel.specs.declared.job.Ask.{Ask}
use Rattle.lensmodel.specs.declared.job.Ask.TheVariants.{Ray, Aim, Fan, Spot, First, Seidel}
use Rattle.lensmodel.specs.declared.job.Job.{Job}
use Rattle.lensmodel.specs.declared.row.Row.{Row}
use Rattle.lensmodel.specs.declared.setup.Setup.{Setup}
use Rattle.lensmodel.specs.declared.status.Status.TheVariants.{Done}

-- ---- the text
-- whether a line of a job asks for one ray by itself
abbrev pub is_single : Ask → Bool
is_single (Ray x y p q) = true
is_single (Aim p q px py z r) = true
is_single (Fan p q n z r) = false
is_single (Spot p q n z r) = false
is_single (First y u) = false
is_single (Seidel y u yb ub) = false

-- what follows the last ray of a grid
abbrev pub spot_end : Ask → List Row → List ℕ
spot_end (Ray x y p q) rows = []
spot_end (Aim p q px py z r) rows = []
spot_end (Fan p q n z r) rows = []
spot_end (Spot p q n z r) rows = spot_line rows
spot_end (First y u) rows = []
spot_end (Seidel y u yb ub) rows = []

-- the rows of a line of a job
abbrev pub rows_of : Setup → Ask → List Row
rows_of s ask = map (row s) (launches ask)

-- its lines, its rays being numbered from i on
abbrev pub ask_lines : Setup → ℕ → Ask → List ℕ
ask_lines s i ask = rays_lines (is_single ask) i (rows_of s ask) ++ spot_end ask (rows_of s ask)

abbrev pub asks_lines : Setup → ℕ → List Ask → List ℕ
asks_lines s i [] = []
asks_lines s i (ask ∷ more) = ask_lines s i ask ++ asks_lines s (i + length (launches ask)) more

unfoldable pub trace_text : Setup → Job → List ℕ
trace_text s job = trace_head s ++ asks_lines s 1 job.asks ++ total_line (map (row s) (job_launches job.asks))

-- ---- the answer
abbrev pub trace_answer : Contents → Inputs → Answer
trace_answer files i = on_inputs files i (λ s job. answer Done (trace_text s job))

-- ---- what it means
-- each ray that is asked for: its printed intervals hold every chain of each prescription in the box, and its word holds
abbrev pub RowsHold : Setup → Job → Type 0
RowsHold s job = All (λ ray. RowHolds s ray (row s ray)) (job_launches job.asks)

-- the rays of a grid with their rows
abbrev pub traced : Setup → Ask → List Traced
traced s ask = map (λ ray. record { ray = ray; row = row s ray }) (launches ask)

-- each grid: whichever whole chain is chosen for each row that passes, their mean and their mean square distance from it lie
-- in the printed intervals
abbrev pub SpotsHold : Setup → Job → Type 0
SpotsHold s job = All (λ ask. SpotHolds s (traced s ask)) job.asks

-- the files held by the names are accepted, the text is that of their setup and their job, and what it says holds
pub record PrintsRows (files : Contents) (i : Inputs) (text : List ℕ) : Type 0 where
  pub setup : Setup
  pub job : Job
  pub inputs : AreInputs files i setup job
  pub printed : text ≡ trace_text setup job
  pub rows : RowsHold setup job
  pub spots : SpotsHold setup job
