-- What a shelf holds by name, where it tells it.
use Rattle.std.specs.Prelude.{◌≡◌, ℕ, ◌<◌, List, length, Option, None, Some, IsSome, IfSome, IsSomeAnd}

-- what is held by each name
abbrev pub Files : Type 0
Files = List ℕ → Option (List ℕ)

-- where it is told what is held, these bytes are held by the name
abbrev pub Holds : Option Files → List ℕ → List ℕ → Type 0
Holds held name bytes = IfSome held (λ files. files name ≡ Some bytes)

-- where it is told what is held, more than n bytes are held by the name
abbrev pub HoldsMore : Option Files → List ℕ → ℕ → Type 0
HoldsMore held name n = IfSome held (λ files. IsSomeAnd (files name) (λ bytes. n < length bytes))

-- where it is told what is held, the name isn't held
abbrev pub Lacks : Option Files → List ℕ → Type 0
Lacks held name = IfSome held (λ files. files name ≡ None)

-- where it is told what is held, what is left is told too, and is all that is held by the name
abbrev pub Opens : Option Files → List ℕ → Option (List ℕ) → Type 0
Opens held name left = IfSome held (λ files. IsSome left × (left ≡ files name))
