-- Causes in their order: the first that stands counts. Cited by the definitions of each file, of a whole lens and of the cross checks.
use Rattle.std.specs.Prelude.{ℕ, suc, Bool, List, [], ◌∷◌, Option, Some, None, Result, Ok, Err, if◌then◌else◌}

-- the first of two, where there is one
abbrev pub or_first : {A : Type 0} → Option A → Option A → Option A
or_first (Some a) b = Some a
or_first None b = b

-- a fault, where its cause stands
abbrev pub fault_if : {F : Type 0} → Bool → F → Option F
fault_if stands fault = if stands then Some fault else None

-- a fault, unless there is a value
abbrev pub bad_unless : {A F : Type 0} → Option A → F → Option F
bad_unless (Some a) fault = None
bad_unless None fault = Some fault

-- the first of some causes that stands
abbrev pub first_fault : {F : Type 0} → List (Option F) → Option F
first_fault [] = None
first_fault (cause ∷ more) = or_first cause (first_fault more)

-- what a test says of each of some things, which are numbered from j on
abbrev pub each_from : {A F : Type 0} → (ℕ → A → Option F) → ℕ → List A → List (Option F)
each_from test j [] = []
each_from test j (a ∷ more) = test j a ∷ each_from test (suc j) more

-- a value, unless there is a fault
abbrev pub ok_unless : {A F : Type 0} → Option F → A → Result A F
ok_unless None a = Ok a
ok_unless (Some fault) a = Err fault
