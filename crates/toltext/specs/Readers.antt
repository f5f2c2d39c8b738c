-- Where a reader stands.
use Rattle.std.specs.Prelude.{◌≡◌, List}
use Rattle.lensmodel.specs.Files.Records.{Words}
use Rattle.lensmodel.specs.Files.Tolerances.{all_tols}
use Rattle.toltext.specs.declared.walk.Reader.{Reader}

-- a reader that took the lines before
pub record IsAt (before : List Words) (r : Reader) : Type 0 where
  pub list : r.list.items ≡ all_tols before
