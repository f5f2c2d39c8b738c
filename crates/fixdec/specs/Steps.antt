-- Steps one after another, and what is said of a value only.
use Rattle.fixdec.specs.declared.step.Step.{Step}
use Rattle.fixdec.specs.declared.step.Step.TheVariants.{Val, Empty, Lost}

infixl 20 ◌>>=◌
-- a step after a step: the first that isn't Val is the answer
abbrev pub ◌>>=◌ : {A B : Type 0} → Step A → (A → Step B) → Step B
Val a >>= f = f a
Empty >>= f = Empty
Lost w >>= f = Lost w

-- P of the value; never Empty; nothing is said of Lost
abbrev pub OnVal : {A : Type 0} → Step A → (A → Type 0) → Type 0
OnVal (Val a) P = P a
OnVal Empty P = ⊥
OnVal (Lost w) P = Unit {0}

-- what a first step gives, handed to a second
pub OnVal-then : {A B : Type 0} (r : Step A) (f : A → Step B) (Q : A → Type 0) (P : B → Type 0) → OnVal r Q → ((x : A) → Q x → OnVal (f x) P) → OnVal (r >>= f) P
OnVal-then (Val a) f Q P h k = k a h
OnVal-then Empty f Q P h k = absurd h
OnVal-then (Lost w) f Q P h k = tt

-- what follows of a value
pub OnVal-map : {A : Type 0} (r : Step A) (P Q : A → Type 0) → ((x : A) → P x → Q x) → OnVal r P → OnVal r Q
OnVal-map (Val x) P Q f h = f x h
OnVal-map Empty P Q f h = h
OnVal-map (Lost w) P Q f h = tt
