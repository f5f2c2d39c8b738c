-- Where a step of a meeting with an even asphere turns, by computing.
use Rattle.std.proofs.Common.{refl}
use Rattle.fixdec.specs.IntervalOperations.{operations}
use Rattle.examples.specs.ComputedTies.{Touching, AtZero, OfWindow}

pub touching : Touching
touching = record { above = refl; below = refl; apart = refl; kept_above = refl; kept_below = refl; dropped = refl }

pub at_zero : AtZero
unfolding operations
at_zero = record { radicand = refl; below = refl; slope = refl; above = refl }

pub of_window : OfWindow
of_window = record { count = refl; first = refl; last = refl; middle = refl }
