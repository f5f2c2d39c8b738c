-- The command read: its words, its file and its answer. Cited by the outcome of a call.
use Rattle.std.specs.Prelude.{ℕ, List, [], ◌∷◌, Option, None, Some}
use Rattle.lensmodel.specs.Call.Answer.{Contents, Named, Answer, answer}
use Rattle.lensmodel.specs.Call.Inputs.{on_lens}
use Rattle.lensmodel.specs.Texts.Lens.{lens_text}
use Rattle.lensmodel.specs.declared.status.FileKind.TheVariants.{Zmx}
use Rattle.lensmodel.specs.declared.status.Status.TheVariants.{Done}

-- ZMX
abbrev pub read_words : List (List ℕ) → Option (List ℕ)
read_words (zmx ∷ []) = Some zmx
read_words words = None

abbrev pub read_named : List ℕ → Named
read_named zmx = (Zmx, zmx) ∷ []

abbrev pub read_answer : Contents → List ℕ → Answer
read_answer files zmx = on_lens files zmx (λ file. answer Done (lens_text file.lens file.unused))
