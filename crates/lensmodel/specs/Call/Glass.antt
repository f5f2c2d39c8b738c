-- The command glass: its words, its file and its answer. Cited by the outcome of a call.
use Rattle.std.specs.Prelude.{ℕ, List, [], ◌∷◌, Option, None, Some}
use Rattle.lensmodel.specs.Call.Answer.{Contents, Named, Answer, answer}
use Rattle.lensmodel.specs.Call.Inputs.{on_catalogue}
use Rattle.lensmodel.specs.Texts.Book.{book_text}
use Rattle.lensmodel.specs.declared.status.FileKind.TheVariants.{Agf}
use Rattle.lensmodel.specs.declared.status.Status.TheVariants.{Done}

-- AGF
abbrev pub glass_words : List (List ℕ) → Option (List ℕ)
glass_words (agf ∷ []) = Some agf
glass_words words = None

abbrev pub glass_named : List ℕ → Named
glass_named agf = (Agf, agf) ∷ []

abbrev pub glass_answer : Contents → List ℕ → Answer
glass_answer files agf = on_catalogue files agf (λ book. answer Done (book_text book))
