-- The lines of a catalogue, and its book.
use Rattle.std.proofs.Common.{◌≡◌, ℕ, List, [], sym, ap, ◌∙◌}
use Rattle.std.specs.Prelude.{Option, Some, None, Ok, Err}
use Rattle.lensmodel.specs.Files.Catalogue.{offence, all_glasses, book, of_lines, of_text, catalogue, glasses_unless}
use Rattle.lensmodel.specs.Files.Records.{Words, each_words, first_offence as first_of}
use Rattle.lensmodel.specs.Files.TextLines.{text}
use Rattle.lensmodel.specs.declared.fault.AgfFault.{AgfFault}
use Rattle.lensmodel.specs.declared.fault.AgfFault.TheVariants.{Text}
use Rattle.lensmodel.specs.declared.fault.TextFault.{TextFault}
use Rattle.lensmodel.specs.declared.glass.Glass.{Glass}
use Rattle.agfread.specs.Walked.{Walked, closed_with, with_glass}
use Rattle.agfread.proofs.Books.{book-append}

closed-walked : (before : List Words) (o : Option Glass) (held : List Glass) → Walked before o held → book (all_glasses before) ≡ closed_with o held
closed-walked before None held w = ap book w.all ∙ sym w.held_is
closed-walked before (Some g) held w = ap book w.all ∙ book-append w.closed g ∙ ap (with_glass g) (sym w.held_is)

pub of_lines-sound : (ls : List Words) (o : Option Glass) (held : List Glass) → first_of offence 1 [] ls ≡ None → Walked ls o held
    → of_lines ls ≡ Ok (closed_with o held)
of_lines-sound ls o held e w = ap (λ f. glasses_unless f ls) e ∙ ap Ok (closed-walked ls o held w)

pub of_lines-fault : (ls : List Words) (f : AgfFault) → first_of offence 1 [] ls ≡ Some f → of_lines ls ≡ Err f
of_lines-fault ls f e = ap (λ o. glasses_unless o ls) e

pub catalogue-lines : (bytes : List ℕ) (ls : List (List ℕ)) → text bytes ≡ Ok ls → catalogue bytes ≡ of_lines (each_words ls)
unfolding catalogue
catalogue-lines bytes ls e = ap of_text e

pub catalogue-fault : (bytes : List ℕ) (f : TextFault) → text bytes ≡ Err f → catalogue bytes ≡ Err (Text f)
unfolding catalogue
catalogue-fault bytes f e = ap of_text e
