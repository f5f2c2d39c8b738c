-- Rows that are worked out though others are lost. Each row has a number in the order of all rows; a value that needs lost
-- rows is lost by the cause of the first of them. Cited by the rows of first order and of the sums.
use Rattle.std.specs.Prelude.{ℕ, nat_le, Bool, true, false, ◌||◌, List, [], ◌∷◌, if◌then◌else◌}
use Rattle.fixdec.specs.Ends.{Ends}
use Rattle.fixdec.specs.declared.step.Step.{Step}
use Rattle.fixdec.specs.declared.step.Step.TheVariants.{Val, Empty, Lost}
use Rattle.fixdec.specs.declared.step.Why.{Why}
use Rattle.fixdec.specs.declared.step.Why.TheVariants.{Root, Zero, Range}

-- the value of a row, or the number of the row that was lost and the cause
pub data Worked (A : Type 0) : Type 0 where
  done : A → Worked A
  gone : ℕ → Why → Worked A

-- what row n gives by itself; the rows that are worked out so are never Empty
abbrev pub of_step : {A : Type 0} → ℕ → Step A → Worked A
of_step n (Val a) = done a
of_step n Empty = gone n Root
of_step n (Lost why) = gone n why

abbrev pub to_step : {A : Type 0} → Worked A → Step A
to_step (done a) = Val a
to_step (gone n why) = Lost why

-- the hull of a value
abbrev pub hull_step : {A : Type 0} → (A → Ends) → Worked A → Step Ends
hull_step hull (done a) = Val (hull a)
hull_step hull (gone n why) = Lost why

-- of two rows the one that was lost first
abbrev pub earlier : {A : Type 0} → Worked A → Worked A → Worked A
earlier (done a) b = b
earlier (gone m why) (done b) = gone m why
earlier (gone m why) (gone n why') = if nat_le m n then gone m why else gone n why'

-- row n, which needs some rows before it: where none of them is lost its own answer, else the first loss among them
abbrev pub unless_gone : {A : Type 0} → ℕ → Worked A → Step A → Worked A
unless_gone n (done a) answer = of_step n answer
unless_gone n (gone m why) answer = gone m why

abbrev pub first_gone : {A : Type 0} → Worked A → List (Worked A) → Worked A
first_gone need [] = need
first_gone need (next ∷ more) = first_gone (earlier need next) more

abbrev pub row : {A : Type 0} → ℕ → List (Worked A) → Step A → Worked A
row n [] answer = of_step n answer
row n (need ∷ more) answer = unless_gone n (first_gone need more) answer

-- whether a row is lost because a number passed the cap, and whether one of some rows is
abbrev pub is_range : Why → Bool
is_range Root = false
is_range Zero = false
is_range Range = true

abbrev pub is_by_range : {A : Type 0} → Worked A → Bool
is_by_range (done a) = false
is_by_range (gone n why) = is_range why

abbrev pub some_by_range : {A : Type 0} → List (Worked A) → Bool
some_by_range [] = false
some_by_range (a ∷ more) = is_by_range a || some_by_range more

-- what comes out at one scale, and whether a row of it is lost by range
pub record Attempt (X : Type 0) : Type 0 where
  pub out : X
  pub by_range : Bool

-- the attempt at the greatest of the scales 15, 12 and 9 at which no row is lost by range; else that at scale 6
abbrev pub chosen : {X : Type 0} → (ℕ → Attempt X) → X
chosen attempt =
    if (attempt 15).by_range
    then (if (attempt 12).by_range then (if (attempt 9).by_range then (attempt 6).out else (attempt 9).out) else (attempt 12).out)
    else (attempt 15).out
