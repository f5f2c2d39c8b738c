-- Between which limits the index of a glass that is used lies.
use Rattle.std.specs.Prelude.{pos}
use Rattle.fixdec.specs.Frac.{Frac, ◌≤Q◌, whole}

-- from 1 to 5
pub record IsFrom1To5 (n : Frac) : Type 0 where
  pub low : whole (pos 1) ≤Q n
  pub high : n ≤Q whole (pos 5)
