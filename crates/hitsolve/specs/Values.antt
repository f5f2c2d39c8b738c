-- What is said of a value, where a step gives one.
use Rattle.std.proofs.Common.{◌≡◌, refl, subst}
use Rattle.fixdec.specs.Steps.{◌>>=◌}
use Rattle.fixdec.specs.declared.step.Step.{Step}
use Rattle.fixdec.specs.declared.step.Step.TheVariants.{Val, Empty, Lost}

-- P of the value, if there is one
abbrev pub IfVal : {A : Type 0} → Step A → (A → Type 0) → Type 0
IfVal (Val a) P = P a
IfVal Empty P = Unit {0}
IfVal (Lost why) P = Unit {0}

pub if_val-then : {A B : Type 0} (r : Step A) (f : A → Step B) (Q : A → Type 0) (P : B → Type 0) → IfVal r Q → ((x : A) → Q x → IfVal (f x) P) → IfVal (r >>= f) P
if_val-then (Val a) f Q P h k = k a h
if_val-then Empty f Q P h k = tt
if_val-then (Lost why) f Q P h k = tt

pub always : {A : Type 0} (r : Step A) (P : Type 0) → P → IfVal r (λ a. P)
always (Val a) P h = h
always Empty P h = tt
always (Lost why) P h = tt

-- what is said of a value, where it is there
pub if_val : {A : Type 0} {r : Step A} {x : A} (P : A → Type 0) → r ≡ Val x → IfVal r P → P x
if_val P e h = subst (λ r. IfVal r P) e h

-- steps in threes
pub then_then : {A B C : Type 0} (r : Step A) (f : A → Step B) (g : B → Step C) → ((r >>= f) >>= g) ≡ (r >>= λ x. f x >>= g)
then_then (Val x) f g = refl
then_then Empty f g = refl
then_then (Lost why) f g = refl

pub then_same : {A B : Type 0} (r : Step A) (f g : A → Step B) → ((x : A) → f x ≡ g x) → (r >>= f) ≡ (r >>= g)
then_same (Val x) f g h = h x
then_same Empty f g h = refl
then_same (Lost why) f g h = refl
