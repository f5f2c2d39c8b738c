-- The command trace-json: its answer, and what the printed rows mean. Its words are those of trace.
-- Cited by the outcome of a call.
use Rattle.std.specs.Prelude.{◌≡◌, ℕ, suc, List, [], ◌∷◌, ◌++◌, map}
use Rattle.lensmodel.specs.Call.Answer.{Contents, Answer, answer}
use Rattle.lensmodel.specs.Call.Inputs.{Inputs, AreInputs, on_inputs}
use Rattle.lensmodel.specs.Call.Trace.{RowsHold}
use Rattle.lensmodel.specs.Rows.Ray.{row}
use Rattle.lensmodel.specs.Setup.Launches.{job_launches}
use Rattle.lensmodel.specs.Texts.JsonRows.{json_line}
use Rattle.lensmodel.specs.declared.job.Job.{Job}
use Rattle.lensmodel.specs.declared.row.Row.{Row}
use Rattle.lensmodel.specs.declared.setup.Setup.{Setup}
use Rattle.lensmodel.specs.declared.status.Status.TheVariants.{Done}

-- a line a ray, numbered from i on
abbrev pub json_lines : ℕ → List Row → List ℕ
json_lines i [] = []
json_lines i (row ∷ more) = json_line i row ++ json_lines (suc i) more

unfoldable pub json_text : Setup → Job → List ℕ
json_text s job = json_lines 1 (map (row s) (job_launches job.asks))

abbrev pub json_answer : Contents → Inputs → Answer
json_answer files i = on_inputs files i (λ s job. answer Done (json_text s job))

-- as of trace
pub record PrintsJson (files : Contents) (i : Inputs) (text : List ℕ) : Type 0 where
  pub setup : Setup
  pub job : Job
  pub inputs : AreInputs files i setup job
  pub printed : text ≡ json_text setup job
  pub rows : RowsHold setup job
