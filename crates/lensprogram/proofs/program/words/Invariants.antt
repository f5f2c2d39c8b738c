use Rattle.std.proofs.Common.{◌≡◌, ◌++◌, map}
use Rattle.std.specs.Prelude.{string_bytes}
use Rattle.std.specs.Vec.Iter.{into_iter_items}
use Rattle.lensprogram.specs.Ending.{said_after_name}
use Rattle.lensprogram.proofs.program.words.Given as goal

-- the words so far and those to come are all of them
abbrev pub invariant-loop-argument : goal.invariant-loop-argument
invariant-loop-argument l =
    map (λ w. w.items) l.all.items ++ map (λ a. string_bytes a) (into_iter_items l.argument-iterator) ≡ said_after_name l.fn.arguments
