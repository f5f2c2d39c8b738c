-- The commands that are built: every other one is as words that fit no command.
use Rattle.std.specs.Prelude.{ℕ, Bool, true, List, Option}
use Rattle.lensmodel.specs.Call.Answer.{Contents, Answer}
use Rattle.lensmodel.specs.Call.TopCall as top
use Rattle.lensmodel.specs.Call.TopCall.{Command, index, glass, read, trace, trace_json, first, seidel}

abbrev pub is_built : Command → Bool
is_built (index c) = true
is_built (glass agf) = true
is_built (read zmx) = true
is_built (trace i) = true
is_built (trace_json i) = true
is_built (first i) = true
is_built (seidel i) = true

-- the command that the words fit
abbrev pub command_of : List (List ℕ) → Option Command
command_of words = top.command_of is_built words

-- the status and the text that are due
abbrev pub outcome : Contents → List (List ℕ) → Answer
outcome files words = top.outcome is_built files words
