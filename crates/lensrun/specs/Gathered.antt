-- A text of which a part was written and the rest is gathered.
use Rattle.std.specs.Prelude.{◌≡◌, ℕ, List, ◌++◌, Option}
use Rattle.lensio.specs.Taken.{Takes}

-- the sink took the part of a text before what is gathered
pub record Gathers (old new : Option (List ℕ)) (gathered text : List ℕ) : Type 0 where
  pub written : List ℕ
  pub takes : Takes old new written
  pub whole : written ++ gathered ≡ text
