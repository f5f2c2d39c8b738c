-- What a sink has taken, where it tells it; and so what a shelf was asked for.
use Rattle.std.specs.Prelude.{◌≡◌, ℕ, List, ◌++◌, take, Option, IfSome, IsSomeAnd}

-- where it is told what was taken, it was told before, and these came to it
abbrev pub Takes : {A : Type 0} → Option (List A) → Option (List A) → List A → Type 0
Takes old new items = IfSome new (λ now. IsSomeAnd old (λ before. now ≡ before ++ items))

-- the same of some front of them
abbrev pub TakesFront : {A : Type 0} → Option (List A) → Option (List A) → List A → Type 0
TakesFront old new items = (n : ℕ) × Takes old new (take n items)
