-- The command seidel: its answer, and what the printed sums mean. Its words are those of a lens, a catalogue and a job.
-- Cited by the outcome of a call.
use Rattle.std.specs.Prelude.{◌≡◌, ℕ, suc, List, [], ◌∷◌, ◌++◌, All, length}
use Rattle.fixdec.specs.Decimal.{Decimal}
use Rattle.lensmodel.specs.Call.Answer.{Contents, Answer, answer}
use Rattle.lensmodel.specs.Call.Inputs.{Inputs, AreInputs, on_inputs}
use Rattle.lensmodel.specs.Paraxial.Seidel.{SeidelChain, IsSeidelChain, HoldsSeidel}
use Rattle.lensmodel.specs.Paraxial.SeidelRows.{seidel_sums}
use Rattle.lensmodel.specs.Texts.SeidelSums.{seidel_head, seidel_set}
use Rattle.lensmodel.specs.declared.job.Ask.{Ask}
use Rattle.lensmodel.specs.declared.job.Ask.TheVariants.{Ray, Aim, Fan, Spot, First, Seidel}
use Rattle.lensmodel.specs.declared.job.Job.{Job}
use Rattle.lensmodel.specs.declared.setup.Setup.{Setup}
use Rattle.lensmodel.specs.declared.status.Status.TheVariants.{Done}

-- a marginal and a chief paraxial ray, by their heights and slopes at surface 1
pub record Pair : Type 0 where
  pub y : Decimal
  pub u : Decimal
  pub yb : Decimal
  pub ub : Decimal

-- the rays of a SEIDEL line, before those of the lines behind it
abbrev pub with_pair : Ask → List Pair → List Pair
with_pair (Ray x y p q) rest = rest
with_pair (Aim p q px py z r) rest = rest
with_pair (Fan p q n z r) rest = rest
with_pair (Spot p q n z r) rest = rest
with_pair (First y u) rest = rest
with_pair (Seidel y u yb ub) rest = record { y = y; u = u; yb = yb; ub = ub } ∷ rest

abbrev pub pairs : List Ask → List Pair
pairs [] = []
pairs (ask ∷ more) = with_pair ask (pairs more)

-- the sets, numbered from i on
abbrev pub sets : Setup → ℕ → List Pair → List ℕ
sets s i [] = []
sets s i (a ∷ more) = seidel_set i (seidel_sums s a.y a.u a.yb a.ub) ++ sets s (suc i) more

unfoldable pub seidel_text : Setup → Job → List ℕ
seidel_text s job = seidel_head (length (pairs job.asks)) ++ sets s 1 (pairs job.asks)

abbrev pub seidel_answer : Contents → Inputs → Answer
seidel_answer files i = on_inputs files i (λ s job. answer Done (seidel_text s job))

-- every Seidel chain lies in what is printed of its rays
abbrev pub SumsHold : Setup → Pair → Type 0
SumsHold s a = (c : SeidelChain) → IsSeidelChain s a.y a.u a.yb a.ub c → HoldsSeidel (seidel_sums s a.y a.u a.yb a.ub) c

pub record PrintsSums (files : Contents) (i : Inputs) (text : List ℕ) : Type 0 where
  pub setup : Setup
  pub job : Job
  pub inputs : AreInputs files i setup job
  pub printed : text ≡ seidel_text setup job
  pub sums : All (SumsHold setup) (pairs job.asks)
