-- The outcome of a call: from its words and the held files the status and the text that are due. It only hands on to the
-- commands. Cited by the top call.
use Rattle.std.specs.Prelude.{◌≡◌, ℕ, Bool, List, [], ◌∷◌, codes, Option, Some, None, option_map, if◌then◌else◌}
use Rattle.lensmodel.specs.Call.Answer.{Contents, Named, Answer, answer}
use Rattle.lensmodel.specs.Call.First.{first_answer, PrintsFirst}
use Rattle.lensmodel.specs.Call.Glass.{glass_words, glass_named, glass_answer}
use Rattle.lensmodel.specs.Call.Index.{Index, index_words, index_named, index_answer, PrintsIndex}
use Rattle.lensmodel.specs.Call.Inputs.{Inputs, three_inputs, boxed_inputs, inputs_named}
use Rattle.lensmodel.specs.Call.Read.{read_words, read_named, read_answer}
use Rattle.lensmodel.specs.Call.Seidel.{seidel_answer, PrintsSums}
use Rattle.lensmodel.specs.Call.Trace.{trace_answer, PrintsRows}
use Rattle.lensmodel.specs.Call.TraceJson.{json_answer, PrintsJson}
use Rattle.lensmodel.specs.Files.Records.{same_word}
use Rattle.lensmodel.specs.Texts.FaultText.{usage_line}
use Rattle.lensmodel.specs.declared.status.Status.TheVariants.{Done, Usage}

-- what the words of a call ask for
pub data Command : Type 0 where
  index : Index → Command
  glass : List ℕ → Command
  read : List ℕ → Command
  trace : Inputs → Command
  trace_json : Inputs → Command
  first : Inputs → Command
  seidel : Inputs → Command

-- by the first word, and the words behind it
abbrev pub command_by : List ℕ → List (List ℕ) → Option Command
command_by word rest =
    if same_word word (codes "index") then option_map index (index_words rest)
    else if same_word word (codes "glass") then option_map glass (glass_words rest)
    else if same_word word (codes "read") then option_map read (read_words rest)
    else if same_word word (codes "trace") then option_map trace (boxed_inputs rest)
    else if same_word word (codes "trace-json") then option_map trace_json (boxed_inputs rest)
    else if same_word word (codes "first") then option_map first (three_inputs rest)
    else if same_word word (codes "seidel") then option_map seidel (three_inputs rest)
    else None

abbrev pub if_built : (Command → Bool) → Option Command → Option Command
if_built is_built None = None
if_built is_built (Some c) = if is_built c then Some c else None

-- the command that the words fit, none where they fit no command; a command that isn't built is none
abbrev pub command_of : (Command → Bool) → List (List ℕ) → Option Command
command_of is_built [] = None
command_of is_built (word ∷ rest) = if_built is_built (command_by word rest)

-- the files that a command names, in the order in which they are read
abbrev pub files_of : Command → Named
files_of (index c) = index_named c
files_of (glass agf) = glass_named agf
files_of (read zmx) = read_named zmx
files_of (trace i) = inputs_named i
files_of (trace_json i) = inputs_named i
files_of (first i) = inputs_named i
files_of (seidel i) = inputs_named i

abbrev pub answer_of : Contents → Command → Answer
answer_of files (index c) = index_answer files c
answer_of files (glass agf) = glass_answer files agf
answer_of files (read zmx) = read_answer files zmx
answer_of files (trace i) = trace_answer files i
answer_of files (trace_json i) = json_answer files i
answer_of files (first i) = first_answer files i
answer_of files (seidel i) = seidel_answer files i

abbrev pub command_answer : Contents → Option Command → Answer
command_answer files None = answer Usage usage_line
command_answer files (Some c) = answer_of files c

-- the outcome
unfoldable pub outcome : (Command → Bool) → Contents → List (List ℕ) → Answer
outcome is_built files words = command_answer files (command_of is_built words)

-- what the text of a report means, by its command
abbrev pub Prints : Contents → Command → List ℕ → Type 0
Prints files (index c) text = PrintsIndex files c text
Prints files (glass agf) text = Unit {0}
Prints files (read zmx) text = Unit {0}
Prints files (trace i) text = PrintsRows files i text
Prints files (trace_json i) text = PrintsJson files i text
Prints files (first i) text = PrintsFirst files i text
Prints files (seidel i) text = PrintsSums files i text

-- an answer means what it prints, where it is done
abbrev pub Means : Contents → Option Command → Answer → Type 0
Means files None a = Unit {0}
Means files (Some c) a = a.status ≡ Done → Prints files c a.text
