-- Polynomial expressions over fractions.
use Rattle.std.specs.Prelude.{ℕ, List}
use Rattle.fixdec.specs.Algebra.Ring.{E, eval, at, Given, Holds, Bounds, Bound, Defs, Stands}
use Rattle.fixdec.specs.Frac.{Frac, ◌≈◌, ◌≤Q◌, ◌+Q◌, ◌*Q◌, ◌-Q◌, neg_Q, whole}

-- an expression over fractions, and the equations that are given
abbrev pub atQ : List Frac → ℕ → Frac
atQ xs = at ◌+Q◌ ◌*Q◌ ◌-Q◌ neg_Q whole xs

abbrev pub evalQ : List Frac → E → Frac
evalQ xs t = eval ◌+Q◌ ◌*Q◌ ◌-Q◌ neg_Q whole (atQ xs) t

abbrev pub HoldsQ : List Frac → Given → Type 0
HoldsQ xs g = Holds ◌+Q◌ ◌*Q◌ ◌-Q◌ neg_Q whole ◌≈◌ (atQ xs) g

abbrev pub BoundQ : List Frac → Bounds → Type 0
BoundQ xs b = Bound ◌+Q◌ ◌*Q◌ ◌-Q◌ neg_Q whole ◌≤Q◌ (atQ xs) b

abbrev pub StandsQ : List Frac → Defs → Type 0
StandsQ xs d = Stands ◌+Q◌ ◌*Q◌ ◌-Q◌ neg_Q whole ◌≈◌ (atQ xs) d
