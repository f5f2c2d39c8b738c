-- Where a reader stands.
use Rattle.std.specs.Prelude.{◌≡◌, List}
use Rattle.lensmodel.specs.Files.Catalogue.{is_NM}
use Rattle.lensmodel.specs.Files.Records.{Words, count_where}
use Rattle.agfread.specs.Walked.{Walked}
use Rattle.agfread.specs.declared.walk.Reader.{Reader}

-- a reader that took the lines before
pub record IsAt (before : List Words) (r : Reader) : Type 0 where
  pub seen : r.seen ≡ count_where is_NM before
  pub walked : Walked before r.current r.book
