-- What holds of the files, told or not.
use Rattle.std.specs.Prelude.{Option, Some, None}
use Rattle.lensio.specs.Held.{Files}
use Rattle.lensmodel.specs.Call.Answer.{Contents}
use Rattle.lensrun.specs.Promise.{OfFiles, by_name}

pub OfFiles-map : (held : Option Files) (P Q : Contents → Type 0) → ((files : Contents) → P files → Q files) → OfFiles held P → OfFiles held Q
OfFiles-map None P Q f h = (h.0, f h.0 h.1)
OfFiles-map (Some files) P Q f h = f (by_name files) h

-- what doesn't speak of the files
pub OfFiles-of : (held : Option Files) (P : Type 0) → OfFiles held (λ files. P) → P
OfFiles-of None P h = h.1
OfFiles-of (Some files) P h = h
