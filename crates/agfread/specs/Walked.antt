-- How far a catalogue was read: the glass that is still open, and the book of those before it.
use Rattle.std.specs.Prelude.{◌≡◌, Bool, true, false, List, [], ◌∷◌, ◌++◌, Option, Some, None, if◌then◌else◌}
use Rattle.lensmodel.specs.Files.Catalogue.{is_NM, all_glasses, formula_number, book, find_glass}
use Rattle.lensmodel.specs.Files.Records.{Words, last_where}
use Rattle.lensmodel.specs.declared.glass.Glass.{Glass}

-- the last glass of the lines is open, and those before it are in the book
pub record OpenAt (before : List Words) (g : Glass) (held : List Glass) : Type 0 where
  pub closed : List Glass
  pub all : all_glasses before ≡ closed ++ g ∷ []
  pub held_is : held ≡ book closed
  pub nm : Words
  pub last : last_where is_NM before ≡ Some nm
  pub formula : g.formula ≡ formula_number nm

-- no glass began in the lines
pub record NoneYet (before : List Words) (held : List Glass) : Type 0 where
  pub all : all_glasses before ≡ []
  pub held_is : held ≡ []
  pub last : last_where is_NM before ≡ None

-- what stands after the lines before
abbrev pub Walked : List Words → Option Glass → List Glass → Type 0
Walked before None held = NoneYet before held
Walked before (Some g) held = OpenAt before g held

-- whether there is no glass
abbrev pub is_none : Option Glass → Bool
is_none None = true
is_none (Some g) = false

-- a book with one more glass, where its name is new
abbrev pub with_glass : Glass → List Glass → List Glass
with_glass g held = if is_none (find_glass g.name.items held) then held ++ g ∷ [] else held

-- a book with the open glass
abbrev pub closed_with : Option Glass → List Glass → List Glass
closed_with None held = held
closed_with (Some g) held = with_glass g held
