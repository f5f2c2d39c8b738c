-- The stop of a lens, as the lines before say it.
use Rattle.std.specs.Prelude.{ℕ, nat_eq, if◌then◌else◌}
use Rattle.zmxread.specs.declared.walk.Stop.{Stop}
use Rattle.zmxread.specs.declared.walk.Stop.TheVariants.{Missing, At, Several}

-- with the mark of surface j too
abbrev pub marked_too : ℕ → Stop → Stop
marked_too j Missing = At j
marked_too j (At i) = if nat_eq i j then At i else Several
marked_too j Several = Several

-- the number of the stop, or the count of the surfaces without one
abbrev pub stop_or : ℕ → Stop → ℕ
stop_or count Missing = count
stop_or count (At j) = j
stop_or count Several = count
