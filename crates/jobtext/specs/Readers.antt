-- Where a reader stands.
use Rattle.std.specs.Prelude.{◌≡◌, Bool, List, Option}
use Rattle.std.specs.Option.{option_map}
use Rattle.lensmodel.specs.Files.Job.{number_at, all_asks}
use Rattle.lensmodel.specs.Files.JobFaults.{is_WAVE, is_RES, is_WIDTH, is_PUPIL}
use Rattle.lensmodel.specs.Files.Records.{Words, last_where, decimal_at}
use Rattle.jobtext.specs.Records.{pupil_of}
use Rattle.jobtext.specs.declared.walk.Reader.{Reader}

-- what the last line of a kind says
abbrev pub last_of : {A : Type 0} → (Words → Bool) → (Words → A) → List Words → Option A
last_of is said before = option_map said (last_where is before)

-- a reader that took the lines before
pub record IsAt (before : List Words) (r : Reader) : Type 0 where
  pub wave : r.wave ≡ last_of is_WAVE (decimal_at 1) before
  pub res : r.res ≡ last_of is_RES (number_at 1) before
  pub width : r.width ≡ last_of is_WIDTH (decimal_at 1) before
  pub pupil : r.pupil ≡ last_of is_PUPIL pupil_of before
  pub asks : r.asks.items ≡ all_asks before
