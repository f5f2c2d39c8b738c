-- The command first: its answer, and what the printed values mean. Its words are those of a lens, a catalogue and a job.
-- Cited by the outcome of a call.
use Rattle.std.specs.Prelude.{◌≡◌, ℕ, suc, List, [], ◌∷◌, ◌++◌, All}
use Rattle.fixdec.specs.Decimal.{Decimal}
use Rattle.lensmodel.specs.Call.Answer.{Contents, Answer, answer}
use Rattle.lensmodel.specs.Call.Inputs.{Inputs, AreInputs, on_inputs}
use Rattle.lensmodel.specs.Paraxial.FirstOrder.{FirstChain, IsFirstChain, HoldsFirst, one_decimal}
use Rattle.lensmodel.specs.Paraxial.FirstOrderRows.{first_order}
use Rattle.lensmodel.specs.Setup.Values.{zero_decimal}
use Rattle.lensmodel.specs.Texts.FirstOrder.{first_head, first_trail}
use Rattle.lensmodel.specs.declared.job.Ask.{Ask}
use Rattle.lensmodel.specs.declared.job.Ask.TheVariants.{Ray, Aim, Fan, Spot, First, Seidel}
use Rattle.lensmodel.specs.declared.job.Job.{Job}
use Rattle.lensmodel.specs.declared.setup.Setup.{Setup}
use Rattle.lensmodel.specs.declared.status.Status.TheVariants.{Done}

-- a paraxial ray, by its height and its slope at surface 1
pub record Asked : Type 0 where
  pub y : Decimal
  pub u : Decimal

-- the ray of a FIRST line, before those of the lines behind it
abbrev pub with_first : Ask → List Asked → List Asked
with_first (Ray x y p q) rest = rest
with_first (Aim p q px py z r) rest = rest
with_first (Fan p q n z r) rest = rest
with_first (Spot p q n z r) rest = rest
with_first (First y u) rest = record { y = y; u = u } ∷ rest
with_first (Seidel y u yb ub) rest = rest

abbrev pub firsts : List Ask → List Asked
firsts [] = []
firsts (ask ∷ more) = with_first ask (firsts more)

-- the trails, numbered from i on, each of a call of its own
abbrev pub trails : Setup → ℕ → List Asked → List ℕ
trails s i [] = []
trails s i (a ∷ more) = first_trail i (first_order s a.y a.u) ++ trails s (suc i) more

-- the six values are those with height 1 and slope 0
unfoldable pub first_text : Setup → Job → List ℕ
first_text s job = first_head (first_order s one_decimal zero_decimal) ++ trails s 1 (firsts job.asks)

abbrev pub first_answer : Contents → Inputs → Answer
first_answer files i = on_inputs files i (λ s job. answer Done (first_text s job))

-- every paraxial chain lies in what is printed of its ray
abbrev pub FirstHolds : Setup → Asked → Type 0
FirstHolds s a = (c : FirstChain) → IsFirstChain s a.y a.u c → HoldsFirst s (first_order s a.y a.u) c

pub record PrintsFirst (files : Contents) (i : Inputs) (text : List ℕ) : Type 0 where
  pub setup : Setup
  pub job : Job
  pub inputs : AreInputs files i setup job
  pub printed : text ≡ first_text setup job
  pub values : FirstHolds setup (record { y = one_decimal; u = zero_decimal })
  pub trails : All (FirstHolds setup) (firsts job.asks)
